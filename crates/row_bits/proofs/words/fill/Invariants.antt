use Rattle.std.proofs.Common.{◌*◌}
use Rattle.row_bits.proofs.WordLemmas.{Filled}
use Rattle.row_bits.proofs.words.fill.Given as goal

abbrev pub invariant-loop-at : goal.invariant-loop-at
invariant-loop-at l = Filled l.initial.words l.words l.low l.high (l.at * 64)
