use Rattle.std.proofs.Common.{◌≡◌, ◌==◌, ◌+◌, drop}
use Rattle.std.specs.List.{position_or_len}
use Rattle.star_select.proofs.picks.column_place.Given as goal

abbrev pub invariant-loop-at : goal.invariant-loop-at
invariant-loop-at l = position_or_len (λ c. c == l.column) l.columns ≡ l.at + position_or_len (λ c. c == l.column) (drop l.at l.columns)
