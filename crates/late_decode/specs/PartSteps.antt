-- Parts while they are merged one after another. Source: this project's own.
use Rattle.std.specs.Prelude.{◌≤◌, ◌+◌, ℕ, List, ◌∷◌, slice_index_or}
use Rattle.blink_lists.specs.declared.limits.TheConstants.{MOST_ROWS}
use Rattle.late_decode.specs.declared.plan.Measure.{Measure}
use Rattle.late_decode.specs.declared.plan.Part.{Part}
use Rattle.late_decode.specs.Parts.{no_part, merged_part}

-- the parts, of which the first ones are merged with those of another list
abbrev pub merged_front : List Measure → List Part → List Part → List Part
merged_front (measure ∷ measures) (x ∷ xs) (y ∷ ys) = merged_part measure x y ∷ merged_front measures xs ys
merged_front measures xs ys = xs

-- the counts of two parts of a measure are together within the bound on combinations
abbrev pub AreFew : List Part → List Part → Type 0
AreFew xs ys = (k : ℕ) → (slice_index_or xs k no_part).count + (slice_index_or ys k no_part).count ≤ MOST_ROWS
