use Rattle.std.proofs.Common.{◌≡◌, ◌+◌, ◌++◌, map, drop}
use Rattle.blink_lists.specs.Lists.{numbered_from}
use Rattle.star_select.specs.QueryPlan.{slot_of}
use Rattle.star_select.proofs.query_finish.group_slots.Given as goal

abbrev pub invariant-loop-at : goal.invariant-loop-at
invariant-loop-at l = l.slots.items ++ map (λ p. slot_of l.groups p.0 p.1) (numbered_from (l.at + 1) (drop l.at l.items)) ≡ map (λ p. slot_of l.groups p.0 p.1) (numbered_from 1 l.items)
