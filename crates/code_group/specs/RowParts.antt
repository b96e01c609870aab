-- Parts while those of a row are merged into them, measure by measure. Source: this project's own.
use Rattle.std.specs.Prelude.{◌<◌, ℕ, zero, suc, pos, None, List, [], ◌∷◌, slice_index_or}
use Rattle.blink_lists.specs.declared.limits.TheConstants.{MOST_ROWS}
use Rattle.late_decode.specs.declared.plan.Measure.{Measure}
use Rattle.late_decode.specs.declared.plan.Part.{Part}
use Rattle.late_decode.specs.Parts.{merged_part, no_part}

-- the parts, of which the first so many are merged with those of another list
abbrev pub merged_until : ℕ → List Measure → List Part → List Part → List Part
merged_until zero measures xs ys = xs
merged_until (suc n) [] xs ys = xs
merged_until (suc n) (measure ∷ measures) [] ys = []
merged_until (suc n) (measure ∷ measures) (x ∷ xs) [] = x ∷ xs
merged_until (suc n) (measure ∷ measures) (x ∷ xs) (y ∷ ys) = merged_part measure x y ∷ merged_until n measures xs ys

-- each part has room for a row more
abbrev pub HaveRoom : List Part → Type 0
HaveRoom parts = (k : ℕ) → (slice_index_or parts k no_part).count < MOST_ROWS

-- the part of so many rows, where rows are counted
abbrev pub rows_counted : ℕ → List Part
rows_counted rows = record { count = rows; sum = pos 0; bound = None } ∷ []
