use Rattle.std.proofs.Common.{find, length, sym, ◌∙◌}
use Rattle.blink_lists.specs.Lists.{numbers_from}
use Rattle.star_bind.specs.Joints.{joints_fact}
use Rattle.star_bind.specs.Lookup.{scope_from}
use Rattle.star_bind.proofs.JointLemmas.{find_next}
use Rattle.star_bind.proofs.star.star_form.first_fact.Goals as goal

pub loop-table-preserved : goal.loop-table-preserved
loop-table-preserved c =
    let p = joints_fact (scope_from c.args.scope.now) c.args.joints.now in
    find_next p c.loop-table.table (length c.args.scope.now) (find p (numbers_from 0 (length c.args.scope.now))) c.loop-table-test.true (sym c.in_ok-is_fact.ensures ∙ c.if-branch.false) c.loop-table.invariant
