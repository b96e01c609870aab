use Rattle.std.proofs.Common.{◌≡◌, ◌*◌, count_by}
use Rattle.row_bits.specs.Bits.{bits_of}
use Rattle.row_bits.proofs.words.count_set.Given as goal

abbrev pub invariant-loop-word : goal.invariant-loop-word
invariant-loop-word l = l.count ≡ count_by (λ b. b) (bits_of (l.word-index * 64) l.words)
