-- Worked ranks, as facts that compute. Source: this project's own.
use Rattle.std.specs.Prelude.{◌≡◌, pos, negsuc, List, [], ◌∷◌}
use Rattle.blink_base.specs.declared.value.Value.{Value}
use Rattle.blink_base.specs.declared.value.Value.TheVariants.{Int}
use Rattle.blink_histogram.specs.Ranks.{ranked, distinct_values}

abbrev pub ranked_column : List Value
ranked_column = Int (pos 3) ∷ Int (pos 7) ∷ Int (negsuc 0) ∷ Int (pos 7) ∷ []

-- the frequent value first, then the others in their order
abbrev pub ByCount : Type 0
ByCount =
    (ranked ranked_column ≡ (Int (pos 7), 2) ∷ (Int (negsuc 0), 1) ∷ (Int (pos 3), 1) ∷ [])
    × (distinct_values ranked_column ≡ Int (pos 3) ∷ Int (pos 7) ∷ Int (negsuc 0) ∷ [])
