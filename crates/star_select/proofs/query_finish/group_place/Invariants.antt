use Rattle.std.proofs.Common.{◌≡◌, ◌+◌, drop}
use Rattle.star_select.specs.QueryPlan.{group_place}
use Rattle.star_select.proofs.query_finish.group_place.Given as goal

abbrev pub invariant-loop-at : goal.invariant-loop-at
invariant-loop-at l = group_place l.groups l.r ≡ l.at + group_place (drop l.at l.groups) l.r
