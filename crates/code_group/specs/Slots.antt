-- Tuples as numbers in mixed radix, and a table of slots that tells the place of each. Source: this project's own.
use Rattle.std.specs.Prelude.{◌≡◌, ◌<◌, ◌≤◌, ◌+◌, ◌*◌, ℕ, zero, suc, Bool, true, false, ◌&&◌, List, [], ◌∷◌, length, nat_lt, Option, Some, None, position, slice_index_or}
use Rattle.code_group.specs.declared.limits.TheConstants.{MOST_SLOTS}
use Rattle.code_group.specs.Tuples.{same_tuple}

-- whether a tuple has an entry per size, each below it
abbrev pub is_within : List ℕ → List ℕ → Bool
is_within [] [] = true
is_within [] (entry ∷ entries) = false
is_within (size ∷ sizes) [] = false
is_within (size ∷ sizes) (entry ∷ entries) = nat_lt entry size && is_within sizes entries

-- how many tuples there are within sizes
abbrev pub tuple_count : List ℕ → ℕ
tuple_count [] = 1
tuple_count (size ∷ sizes) = size * tuple_count sizes

-- the number of a tuple: the first entry is the lowest digit
abbrev pub number_of : List ℕ → List ℕ → ℕ
number_of [] entries = 0
number_of (size ∷ sizes) [] = 0
number_of (size ∷ sizes) (entry ∷ entries) = entry + size * number_of sizes entries

-- the place that a slot tells; 0 tells none
abbrev pub place_in : ℕ → Option ℕ
place_in zero = None
place_in (suc place) = Some place

-- slots, if there are any, tell of each tuple within the sizes where it stands among some tuples
pub record AreSlots (sizes slots : List ℕ) (tuples : List (List ℕ)) : Type 0 where
  pub full : 0 < length slots → tuple_count sizes ≡ length slots
  pub few : length slots ≤ MOST_SLOTS
  pub tells : 0 < length slots → (tuple : List ℕ) → is_within sizes tuple ≡ true → place_in (slice_index_or slots (number_of sizes tuple) 0) ≡ position (same_tuple tuple) tuples
