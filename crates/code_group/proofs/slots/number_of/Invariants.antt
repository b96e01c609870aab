use Rattle.std.proofs.Common.{◌≡◌, ◌≤◌, drop, length}
use Rattle.code_group.specs.Slots.{number_of}
use Rattle.code_group.proofs.slots.number_of.Given as goal

abbrev pub invariant-loop-at : goal.invariant-loop-at
invariant-loop-at l = (l.at ≤ length l.entries) × (l.number ≡ number_of (drop l.at l.sizes) (drop l.at l.entries))

abbrev pub decreases-loop-at : goal.decreases-loop-at
decreases-loop-at l = l.at
