use Rattle.std.proofs.Common.{◌-◌, length}
use Rattle.star_lex.proofs.ClosingQuoteLemmas.{IsReadTo}
use Rattle.star_lex.proofs.lengths.closed_length.Given as goal

abbrev pub invariant-loop-at : goal.invariant-loop-at
invariant-loop-at l = IsReadTo l.bytes l.at

abbrev pub decreases-loop-at : goal.decreases-loop-at
decreases-loop-at l = length l.bytes - l.at
