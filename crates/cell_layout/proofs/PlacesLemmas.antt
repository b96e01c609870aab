-- The places of rows, by those of their columns.
use Rattle.std.proofs.Common.{◌≡◌, ◌<◌, ℕ, List, Some, None, pos, All, length, slice_get, get_or, sym, ap, ◌∙◌, arith}
use Rattle.std.proofs.lemmas.List.{get_or_default, get_or-map, length-map}
use Rattle.std.proofs.lemmas.Option.{slice_get-get_or}
use Rattle.blink_base.specs.declared.value.Value.{Value}
use Rattle.blink_base.specs.declared.value.Value.TheVariants.{Int}
use Rattle.blink_base.specs.Values.{Row}
use Rattle.order_codes.specs.declared.place.CodePlace.{CodePlace}
use Rattle.order_codes.specs.Dictionary.{Classes, place_of_value}
use Rattle.column_classes.specs.ColumnClasses.{column_values}
use Rattle.column_classes.specs.CodedColumn.{ArePlacesOf}
use Rattle.cell_layout.specs.Places.{HavePlaces}

-- the place of a row's value, as the places of its column say
place_of_row : (columns : List Classes) (all : List (List CodePlace)) (rows : List Row) (r : ℕ) (d : Row) (k : ℕ) (c : Classes) (p : List CodePlace) (v : Value) → ArePlacesOf rows columns all → All (λ row. length row ≡ length columns) rows
    → r < length rows → k < length columns → (r < length (get_or all k p)) × (slice_get (get_or all k p) r ≡ place_of_value (get_or columns k c) (get_or (get_or rows r d) k v))
place_of_row columns all rows r d k c p v are full lt within =
    let is = are.1 k c p within in
    let long : length (get_or all k p) ≡ length rows =
    sym (length-map (get_or all k p) (λ (q : CodePlace). Some q)) ∙ ap length is ∙ length-map (column_values rows k) (place_of_value (get_or columns k c)) ∙ length-map rows (λ (row : Row). get_or row k (Int (pos 0))) in
    let inside : r < length (get_or all k p) = omega arith in
    let here = full r d lt in
    let deep : k < length (get_or rows r d) = omega arith in
    let q : CodePlace = record { class = 0; code = 0 } in
    let zero_value : Value = Int (pos 0) in
    let place = place_of_value (get_or columns k c) in
    let values : r < length (column_values rows k) = omega (arith, lt, length-map rows (λ (row : Row). get_or row k (Int (pos 0)))) in (
      inside,
      slice_get-get_or (get_or all k p) r q inside ∙ sym (get_or-map (λ (x : CodePlace). Some x) (get_or all k p) r q None inside) ∙ ap (λ l. get_or l r None) is
          ∙ get_or-map place (column_values rows k) r zero_value None values ∙ ap place (get_or-map (λ (row : Row). get_or row k zero_value) rows r d zero_value lt ∙ get_or_default (get_or rows r d) k zero_value v deep),
    )

-- the places of columns are those of their rows
pub places_of_rows : (columns : List Classes) (all : List (List CodePlace)) (rows : List Row) → ArePlacesOf rows columns all → All (λ row. length row ≡ length columns) rows → HavePlaces columns all rows
places_of_rows columns all rows are full = λ r d lt. (are.0, λ k c p v within. place_of_row columns all rows r d k c p v are full lt within)
