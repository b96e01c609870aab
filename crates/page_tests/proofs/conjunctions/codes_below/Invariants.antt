use Rattle.std.proofs.Common.{◌≡◌, length}
use Rattle.page_tests.proofs.conjunctions.codes_below.Given as goal

abbrev pub invariant-loop-range : goal.invariant-loop-range
invariant-loop-range l = length l.bits ≡ l.size
