use Rattle.std.proofs.Common.{◌≡◌, ◌-◌, ◌++◌, drop, length}
use Rattle.star_lex.specs.Forms.{unpaired}
use Rattle.star_lex.proofs.contents.unpaired.Given as goal

abbrev pub invariant-loop-at : goal.invariant-loop-at
invariant-loop-at l = l.bytes.items ++ unpaired (drop l.at l.inside) ≡ unpaired l.inside

abbrev pub decreases-loop-at : goal.decreases-loop-at
decreases-loop-at l = length l.inside - l.at
