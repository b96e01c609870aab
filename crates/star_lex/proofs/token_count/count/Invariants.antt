use Rattle.std.proofs.Common.{◌≡◌, ◌≤◌, ◌-◌, List, length}
use Rattle.star_lex.specs.declared.token.Token.{Token}
use Rattle.star_lex.proofs.ProgressLemmas.{IsLexedTo}
use Rattle.star_lex.proofs.token_count.count.Given as goal

abbrev pub invariant-loop-at : goal.invariant-loop-at
invariant-loop-at l = (tokens : List Token) × IsLexedTo l.text tokens l.at × (l.at ≤ length l.text) × (length tokens ≤ l.at) × (l.count ≡ length tokens)

abbrev pub decreases-loop-at : goal.decreases-loop-at
decreases-loop-at l = length l.text - l.at
