use Rattle.star_bind.specs.Branches.{followed}
use Rattle.star_bind.proofs.BranchLemmas.{next_followed}
use Rattle.star_bind.proofs.conditions.spread.followed_by_each.Goals as goal

pub loop-row-preserved : goal.loop-row-preserved
loop-row-preserved c =
    next_followed c.loop-row.all c.add_followed.new.all (followed c.args.rows.now c.args.made.now) c.args.rows.now c.args.made.now c.loop-row.row-index c.row-item.result
    c.loop-row-test.true c.row-item.is c.in_ok-add_followed.ensures c.loop-row.invariant
