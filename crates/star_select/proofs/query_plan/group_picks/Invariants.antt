use Rattle.std.proofs.Common.{◌≡◌, ◌++◌, map, drop}
use Rattle.star_select.specs.Picks.{pick_of}
use Rattle.star_select.proofs.query_plan.group_picks.Given as goal

abbrev pub invariant-loop-r : goal.invariant-loop-r
invariant-loop-r l = l.picks.items ++ map (pick_of l.query) (drop l.r-index l.groups) ≡ map (pick_of l.query) l.groups
