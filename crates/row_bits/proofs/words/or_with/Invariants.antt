use Rattle.std.proofs.Common.{◌*◌, ◌||◌}
use Rattle.row_bits.proofs.WordLemmas.{Joined}
use Rattle.row_bits.proofs.words.or_with.Given as goal

abbrev pub invariant-loop-at : goal.invariant-loop-at
invariant-loop-at l = Joined (λ a b. a || b) l.initial.words l.other l.words (l.at * 64)
