use Rattle.std.proofs.Common.{◌≡◌, replicate}
use Rattle.code_group.proofs.slots.zeros.Given as goal

abbrev pub invariant-loop-slot : goal.invariant-loop-slot
invariant-loop-slot l = l.zeros.items ≡ replicate l._slot 0
