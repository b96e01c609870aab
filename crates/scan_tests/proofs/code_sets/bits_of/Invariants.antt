use Rattle.std.proofs.Common.{◌≡◌, length}
use Rattle.scan_tests.proofs.code_sets.bits_of.Given as goal

abbrev pub invariant-loop-code : goal.invariant-loop-code
invariant-loop-code l = length l.bits ≡ l.size
