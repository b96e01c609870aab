-- The places of a column's values, row by row. Source: this project's own.
use Rattle.std.specs.Prelude.{◌≡◌, ◌<◌, ◌⊎◌, ℕ, List, Some, map, slice_get, slice_index_or, length}
use Rattle.std.specs.Map.{keys_of}
use Rattle.blink_base.specs.declared.value.Value.{Value}
use Rattle.blink_base.specs.Values.{Row}
use Rattle.blink_histogram.specs.Ranks.{Counted}
use Rattle.order_codes.specs.declared.place.CodePlace.{CodePlace}
use Rattle.order_codes.specs.Dictionary.{Classes, decoded, place_of_value}
use Rattle.column_classes.specs.ColumnClasses.{column_values}

-- the first place of all
abbrev pub first_place : CodePlace
first_place = record { class = 0; code = 0 }

-- the places of numbers
abbrev pub places_by : List CodePlace → List ℕ → List CodePlace
places_by places numbers = map (λ n. slice_index_or places n first_place) numbers

-- each value of a column has a place in these classes, and these are they
abbrev pub ArePlacesIn : Classes → List Value → List CodePlace → Type 0
ArePlacesIn classes column places = map Some places ≡ map (place_of_value classes) column

-- a place in a class before this one, or before this code in it
abbrev pub IsBefore : ℕ → ℕ → ℕ → ℕ → Type 0
IsBefore k j class code = (k < class) ⊎ ((k ≡ class) × (j < code))

-- the place that stands at a value's number decodes to it, for each value that stands before this class and code
abbrev pub HavePlaces : List Counted → Classes → List CodePlace → ℕ → ℕ → Type 0
HavePlaces counts classes places class code =
    (n : ℕ) (v : Value) (d : CodePlace) (k j : ℕ) → slice_get (keys_of counts) n ≡ Some v → IsBefore k j class code → decoded classes k j ≡ Some v
    → decoded classes (slice_index_or places n d).class (slice_index_or places n d).code ≡ Some v

-- the places of each column of rows
abbrev pub ArePlacesOf : List Row → List Classes → List (List CodePlace) → Type 0
ArePlacesOf rows columns places = (length places ≡ length columns)
    × ((k : ℕ) (c : Classes) (p : List CodePlace) → k < length columns → ArePlacesIn (slice_index_or columns k c) (column_values rows k) (slice_index_or places k p))
