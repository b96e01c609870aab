-- Rounds of bounds: a row lies outside a round where one of its codes lies outside its bounds. Source: this project's own.
use Rattle.std.specs.Prelude.{ℕ, Bool, true, ◌&&◌, List, [], ◌∷◌, map, replicate}
use Rattle.std.specs.Simd.Lanes.{zip2}
use Rattle.masked_compare.specs.Fields.{lane_count}
use Rattle.masked_compare.specs.Words.{IsClean}
use Rattle.masked_compare.specs.Marks.{inside_of, lacks}
use Rattle.masked_compare.specs.declared.round.Round.{Round}

-- both bounds have zero guard bits and padding
abbrev pub IsRound : List ℕ → Round → Type 0
IsRound widths round = IsClean widths round.low × IsClean widths round.high

-- place by place, whether both are true
abbrev pub both_true : List Bool → List Bool → List Bool
both_true xs ys = zip2 (λ x y. x && y) xs ys

-- whether each lane has a code outside its bounds
abbrev pub outside_of : List ℕ → ℕ → ℕ → ℕ → List Bool
outside_of widths word low high = map lacks (inside_of widths word low high)

-- whether each lane lies outside every round
abbrev pub outside_rounds : List ℕ → List Round → ℕ → List Bool
outside_rounds widths [] word = replicate (lane_count widths) true
outside_rounds widths (round ∷ rounds) word = both_true (outside_rounds widths rounds word) (outside_of widths word round.low round.high)
