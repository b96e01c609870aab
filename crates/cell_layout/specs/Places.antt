-- The places of rows' values, column by column. Source: this project's own.
use Rattle.std.specs.Prelude.{◌≡◌, ◌<◌, ℕ, true, List, length, slice_get, slice_index_or}
use Rattle.blink_base.specs.declared.value.Value.{Value}
use Rattle.blink_base.specs.Values.{Row}
use Rattle.order_codes.specs.declared.place.CodePlace.{CodePlace}
use Rattle.order_codes.specs.Dictionary.{Classes, class_at, place_of_value}
use Rattle.cell_layout.specs.Image.{is_coded, coded}

-- a place that these classes have
abbrev pub IsPlaceIn : Classes → CodePlace → Type 0
IsPlaceIn classes place = (place.class < length classes) × (place.code < length (class_at classes place.class))

-- at this number stand the places of a row's values
abbrev pub HasPlacesAt : List Classes → List (List CodePlace) → ℕ → Row → Type 0
HasPlacesAt columns places at row = (length places ≡ length columns)
    × ((k : ℕ) (c : Classes) (p : List CodePlace) (v : Value) → k < length columns
    → (at < length (slice_index_or places k p)) × (slice_get (slice_index_or places k p) at ≡ place_of_value (slice_index_or columns k c) (slice_index_or row k v)))

-- at the number of each row stand the places of its values
abbrev pub HavePlaces : List Classes → List (List CodePlace) → List Row → Type 0
HavePlaces columns places rows = (r : ℕ) (d : Row) → r < length rows → HasPlacesAt columns places r (slice_index_or rows r d)

-- the class numbers and the codes of a row, each of whose values has a code
pub record AreCodesOf (columns : List Classes) (row : Row) (numbers below : List ℕ) : Type 0 where
  pub whole : is_coded columns row ≡ true
  pub classes : numbers ≡ (coded columns row).classes
  pub codes : below ≡ (coded columns row).codes
