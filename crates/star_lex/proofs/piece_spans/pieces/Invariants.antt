use Rattle.std.proofs.Common.{◌≤◌, ◌-◌, length}
use Rattle.star_lex.proofs.PieceLemmas.{IsCutTo}
use Rattle.star_lex.proofs.piece_spans.pieces.Given as goal

abbrev pub invariant-loop-at : goal.invariant-loop-at
invariant-loop-at l = IsCutTo l.text l.places l.start l.at × (l.at ≤ length l.text)

abbrev pub decreases-loop-at : goal.decreases-loop-at
decreases-loop-at l = length l.text - l.at
