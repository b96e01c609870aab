use Rattle.star_bind.proofs.BranchLemmas.{only_followed}
use Rattle.star_bind.proofs.conditions.spread.followed.Goals as goal

pub returns-in-len1 : goal.returns-in-len1
returns-in-len1 c =
    only_followed c.followed_by_one.result c.args.rows c.args.made.now c.tests-item.result c.as_slice.result.now c.in-len1.len_at_least c.in-len1.len_below c.tests-item.is c.as_slice.ensures c.followed_by_one.ensures
