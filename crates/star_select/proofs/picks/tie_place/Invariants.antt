use Rattle.std.proofs.Common.{◌≡◌, ◌==◌, ◌+◌, drop}
use Rattle.std.specs.List.{position_or_len}
use Rattle.star_select.proofs.picks.tie_place.Given as goal

abbrev pub invariant-loop-at : goal.invariant-loop-at
invariant-loop-at l = position_or_len (λ t. t.dimension == l.table) l.ties ≡ l.at + position_or_len (λ t. t.dimension == l.table) (drop l.at l.ties)
