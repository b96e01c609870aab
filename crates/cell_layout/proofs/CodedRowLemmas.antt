-- Rows as class numbers and codes, and back.
use Rattle.std.proofs.Common.{◌≡◌, ◌<◌, ℕ, zero, suc, Bool, true, ◌&&◌, ◌==◌, List, [], ◌∷◌, Option, Some, None, map, length, nat_lt, IfSome, refl, sym, ap, true≢false, arith}
use Rattle.std.specs.List.{list_all, zip, filter_map}
use Rattle.std.specs.Option.{is_some}
use Rattle.std.proofs.lemmas.Bool.{and_parts, and_from, lt-ltb, eq-eqb, eqb-true}
use Rattle.std.proofs.lemmas.Option.{slice_get_within}
use Rattle.blink_base.specs.declared.value.Value.{Value}
use Rattle.blink_base.specs.Values.{Row}
use Rattle.order_codes.specs.declared.place.CodePlace.{CodePlace}
use Rattle.order_codes.specs.Dictionary.{Classes, are_classes, class_at, place_of_value}
use Rattle.order_codes.specs.Codes.{DecodesFound}
use Rattle.cell_layout.specs.Image.{CodedRow, places_of, is_coded, coded, decoded_row}
use Rattle.cell_layout.specs.Valid.{are_codes}

-- a class number per column, below the column's number of classes
abbrev pub are_numbers : List Classes → List ℕ → Bool
are_numbers columns classes = length classes == length columns && list_all (λ p. nat_lt p.1 (length p.0)) (zip columns classes)

-- each code is below its class's size
abbrev pub below_sizes : List Classes → List ℕ → List ℕ → Bool
below_sizes columns classes codes = list_all (λ p. nat_lt p.1 (length (class_at p.0.0 p.0.1))) (zip (zip columns classes) codes)

-- what the class numbers and codes of a row are
pub record IsBack (columns : List Classes) (row : Row) (r : CodedRow) : Type 0 where
  pub back : decoded_row columns r.classes r.codes ≡ row
  pub as_many : length r.classes ≡ length columns
  pub within : list_all (λ p. nat_lt p.1 (length p.0)) (zip columns r.classes) ≡ true
  pub codes : length r.codes ≡ length columns
  pub below : below_sizes columns r.classes r.codes ≡ true

class_within : (classes : Classes) (k code : ℕ) → code < length (class_at classes k) → k < length classes
class_within [] k code lt = absurd (omega (arith, lt))
class_within (xs ∷ rest) zero code lt = omega arith
class_within (xs ∷ rest) (suc k) code lt = let more = class_within rest k code lt in omega (arith, more)

-- a place that is found is one of the classes' and of their codes
place-within : DecodesFound → (classes : Classes) (v : Value) (place : CodePlace) → place_of_value classes v ≡ Some place → are_classes classes ≡ true
    → (place.class < length classes) × (place.code < length (class_at classes place.class))
place-within decodes classes v place found valid =
    let below = slice_get_within (class_at classes place.class) place.code v (decodes classes v place found valid) in
    (class_within classes place.class place.code below, below)

-- the same of an answer
pub answer_within : DecodesFound → (classes : Classes) (v : Value) (o : Option CodePlace) → o ≡ place_of_value classes v → are_classes classes ≡ true
    → IfSome o (λ place. (place.class < length classes) × (place.code < length (class_at classes place.class)))
answer_within decodes classes v None found valid = tt
answer_within decodes classes v (Some place) found valid = place-within decodes classes v place (sym found) valid

-- with one column more
one_more : DecodesFound → (column : Classes) (columns : List Classes) (v : Value) (row : Row) (place : CodePlace) (r : CodedRow) → place_of_value column v ≡ Some place → are_classes column ≡ true → IsBack columns row r
    → IsBack (column ∷ columns) (v ∷ row) (record { classes = place.class ∷ r.classes; codes = place.code ∷ r.codes })
one_more decodes column columns v row place r found valid rest =
    let is = decodes column v place found valid in
    let low = place-within decodes column v place found valid in
    record {
      back = rw (is, rest.back) refl;
      as_many = ap suc rest.as_many;
      within = and_from (nat_lt place.class (length column)) (list_all (λ p. nat_lt p.1 (length p.0)) (zip columns r.classes)) (lt-ltb _ _ low.0) rest.within;
      codes = ap suc rest.codes;
      below = and_from (nat_lt place.code (length (class_at column place.class))) (below_sizes columns r.classes r.codes) (lt-ltb _ _ low.1) rest.below;
    }

-- the row of these places
abbrev pub row_of : List (Option CodePlace) → CodedRow
row_of places = record { classes = map (λ p. p.class) (filter_map (λ p. p) places); codes = map (λ p. p.code) (filter_map (λ p. p) places) }

by_places : DecodesFound → (columns : List Classes) (row : Row) → length row ≡ length columns → list_all are_classes columns ≡ true → is_coded columns row ≡ true → IsBack columns row (row_of (places_of columns row))
by_places decodes [] [] long valid all = record { back = refl; as_many = refl; within = refl; codes = refl; below = refl }
by_places decodes [] (v ∷ row) long valid all = absurd (omega arith)
by_places decodes (column ∷ columns) [] long valid all = absurd (omega arith)
by_places decodes (column ∷ columns) (v ∷ row) long valid all =
    let parts = and_parts (are_classes column) (list_all are_classes columns) valid in
    by (place_of_value column v) refl parts.0 all (by_places decodes columns row (omega arith) parts.1)
  where
    by : (o : Option CodePlace) → place_of_value column v ≡ o → are_classes column ≡ true → (is_some o && is_coded columns row) ≡ true
        → (is_coded columns row ≡ true → IsBack columns row (row_of (places_of columns row))) → IsBack (column ∷ columns) (v ∷ row) (row_of (o ∷ places_of columns row))
    by None e is all rest = absurd (true≢false (sym all))
    by (Some place) e is all rest = one_more decodes column columns v row place (row_of (places_of columns row)) e is (rest all)

-- a row whose values all have places is had back from them
pub coded_back : DecodesFound → (columns : List Classes) (row : Row) → length row ≡ length columns → list_all are_classes columns ≡ true → is_coded columns row ≡ true → IsBack columns row (coded columns row)
coded_back decodes columns row long valid all = by_places decodes columns row long valid all

-- as many values as columns, each with a place
abbrev pub is_whole : List Classes → Row → Bool
is_whole columns row = length row == length columns && is_coded columns row

whole_back : DecodesFound → (columns : List Classes) (row : Row) → list_all are_classes columns ≡ true → is_whole columns row ≡ true → IsBack columns row (coded columns row)
whole_back decodes columns row valid whole =
    let parts = and_parts (length row == length columns) (is_coded columns row) whole in
    coded_back decodes columns row (eqb-true _ _ parts.0) valid parts.1

-- row by row
pub all_back : DecodesFound → (columns : List Classes) (rows : List Row) → list_all are_classes columns ≡ true → list_all (is_whole columns) rows ≡ true
    → map (λ r. decoded_row columns r.classes r.codes) (map (coded columns) rows) ≡ rows
all_back decodes columns [] valid all = refl
all_back decodes columns (row ∷ rows) valid all =
    let parts = and_parts (is_whole columns row) (list_all (is_whole columns) rows) all in
    let here = whole_back decodes columns row valid parts.0 in
    rw (here.back, all_back decodes columns rows valid parts.1) refl

-- the class numbers and the codes of a cell
abbrev pub is_placed : List Classes → CodedRow → Bool
is_placed columns r = are_numbers columns r.classes && are_codes columns r.classes r.codes

pub all_placed : DecodesFound → (columns : List Classes) (rows : List Row) → list_all are_classes columns ≡ true → list_all (is_whole columns) rows ≡ true
    → list_all (is_placed columns) (map (coded columns) rows) ≡ true
all_placed decodes columns [] valid all = refl
all_placed decodes columns (row ∷ rows) valid all =
    let parts = and_parts (is_whole columns row) (list_all (is_whole columns) rows) all in
    let here = whole_back decodes columns row valid parts.0 in
    and_from (is_placed columns (coded columns row)) (list_all (is_placed columns) (map (coded columns) rows))
    (and_from _ _ (and_from _ _ (eq-eqb _ _ here.as_many) here.within) (and_from _ _ (eq-eqb _ _ here.codes) here.below)) (all_placed decodes columns rows valid parts.1)
