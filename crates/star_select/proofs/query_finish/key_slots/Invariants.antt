use Rattle.std.proofs.Common.{◌≡◌, ◌++◌, map, drop}
use Rattle.blink_lists.specs.Lists.{numbered, numbered_from}
use Rattle.late_decode.specs.declared.plan.Slot.TheVariants.{Key}
use Rattle.star_select.proofs.query_finish.key_slots.Given as goal

abbrev pub invariant-loop-at : goal.invariant-loop-at
invariant-loop-at l = l.slots.items ++ map (λ p. Key p.0) (numbered_from l.at (drop l.at l.items)) ≡ map (λ p. Key p.0) (numbered l.items)
