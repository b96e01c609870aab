use Rattle.std.proofs.Common.{◌≡◌, ◌≤◌, ◌-◌, drop, length}
use Rattle.star_lex.specs.TextKinds.{kinds_in}
use Rattle.star_lex.proofs.text_token.from_first.Given as goal

abbrev pub invariant-loop-left : goal.invariant-loop-left
invariant-loop-left l = (kinds_in (drop l.at l.text) ≡ kinds_in l.text) × (l.at ≤ length l.text)

abbrev pub decreases-loop-left : goal.decreases-loop-left
decreases-loop-left l = length l.text - l.at
