use Rattle.std.proofs.Common.{◌≤◌, ◌-◌, length}
use Rattle.star_lex.proofs.ProgressLemmas.{IsLexedTo}
use Rattle.star_lex.proofs.lexer.tokens.Given as goal

abbrev pub invariant-loop-at : goal.invariant-loop-at
invariant-loop-at l = IsLexedTo l.text l.tokens l.at × (l.at ≤ length l.text) × (length l.tokens ≤ l.at)

abbrev pub decreases-loop-at : goal.decreases-loop-at
decreases-loop-at l = length l.text - l.at
