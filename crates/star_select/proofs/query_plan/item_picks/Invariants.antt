use Rattle.std.proofs.Common.{◌≡◌, ◌++◌, map, drop}
use Rattle.star_select.specs.QueryPlan.{item_pick}
use Rattle.star_select.proofs.query_plan.item_picks.Given as goal

abbrev pub invariant-loop-item : goal.invariant-loop-item
invariant-loop-item l = l.picks.items ++ map (item_pick l.query) (drop l.item-index l.items) ≡ map (item_pick l.query) l.items
