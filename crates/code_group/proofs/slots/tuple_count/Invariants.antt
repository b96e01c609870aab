use Rattle.std.proofs.Common.{◌≡◌, ◌≤◌, drop, length}
use Rattle.code_group.specs.declared.limits.TheConstants.{MOST_SLOTS}
use Rattle.code_group.specs.Slots.{tuple_count}
use Rattle.code_group.proofs.slots.tuple_count.Given as goal

abbrev pub invariant-loop-at : goal.invariant-loop-at
invariant-loop-at l = (l.at ≤ length l.sizes) × (l.count ≡ tuple_count (drop l.at l.sizes)) × (l.count ≤ MOST_SLOTS)

abbrev pub decreases-loop-at : goal.decreases-loop-at
decreases-loop-at l = l.at
