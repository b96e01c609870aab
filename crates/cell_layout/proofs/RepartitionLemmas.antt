-- The rows of a valid image, placed again by its classes.
use Rattle.std.proofs.Common.{◌≡◌, ℕ, pos, Bool, true, false, not, ◌&&◌, ◌==◌, List, [], ◌∷◌, ◌++◌, Option, Some, map, filter, length, get_or, nat_le, nat_lt, unwrap_or, refl, sym, ap, ◌∙◌, true≢false, arith}
use Rattle.std.specs.List.{list_all, list_any, flat_map}
use Rattle.std.specs.Option.{is_some}
use Rattle.std.proofs.lemmas.Bool.{and_parts, and_from, or_parts, ltb-true, eqb-true, not-true}
use Rattle.std.proofs.lemmas.List.{map-append, append-nil}
use Rattle.std.proofs.lemmas.List.Elements.{filter-append}
use Rattle.std.proofs.lemmas.List.Folds.{list_all-append}
use Rattle.std.proofs.lemmas.Option.{slice_get-get_or}
use Rattle.blink_lists.specs.Lists.{in_order, once_each, rises, are_distinct}
use Rattle.blink_base.specs.declared.value.Value.TheVariants.{Int}
use Rattle.order_codes.specs.declared.place.CodePlace.{CodePlace}
use Rattle.order_codes.specs.Dictionary.{Classes, are_classes, class_at, place_of_value, decoded}
use Rattle.order_codes.specs.Codes.{FindsDecoded}
use Rattle.cell_layout.specs.Image.{TableImage, CellImage, CodedRow, places_of, is_coded, coded, decoded_row, cell_rows}
use Rattle.cell_layout.specs.InsertRow.{keys_in}
use Rattle.cell_layout.specs.Layout.{cell_cmp, same_cell, cell_of, cells_of}
use Rattle.cell_layout.specs.Valid.{are_codes, is_row_count, is_cell, is_rest_row}
use Rattle.blink_base.specs.RowFits.{fits}
use Rattle.std.proofs.lemmas.Cmp.{nat_list_cmp_total}
use Rattle.blink_lists.proofs.GroupLemmas.{all-imply}
use Rattle.cell_layout.proofs.PlacedImageLemmas.{valid_parts, divided_classes}
use Rattle.cell_layout.specs.Repartition.{StandsPlaced}
use Rattle.blink_lists.proofs.RisingLemmas.{in_order_rising, distinct_rises}
use Rattle.cell_layout.proofs.CellLemmas.{same_itself, same_back}
use Rattle.cell_layout.proofs.CodedRowLemmas.{are_numbers, below_sizes, row_of}

module _ {X : Type 0} where
  all_pass : (p : X → Bool) (xs : List X) → list_all p xs ≡ true → filter p xs ≡ xs
  all_pass p [] all = refl
  all_pass p (x ∷ xs) all = let parts = and_parts (p x) (list_all p xs) all in rw parts.0 (ap (λ l. x ∷ l) (all_pass p xs parts.1))

  none_pass : (p : X → Bool) (xs : List X) → list_all (λ x. not (p x)) xs ≡ true → filter p xs ≡ []
  none_pass p [] none = refl
  none_pass p (x ∷ xs) none = let parts = and_parts (not (p x)) (list_all (λ y. not (p y)) xs) none in rw (not-true (p x) parts.0) (none_pass p xs parts.1)

  filter-twice : (p : X → Bool) (xs : List X) → filter p (filter p xs) ≡ filter p xs
  filter-twice p [] = refl
  filter-twice p (x ∷ xs) = by (p x) refl (filter-twice p xs)
    where
      by : (b : Bool) → p x ≡ b → filter p (filter p xs) ≡ filter p xs → filter p (filter p (x ∷ xs)) ≡ filter p (x ∷ xs)
      by true e rest = rw (e, e) (ap (λ l. x ∷ l) rest)
      by false e rest = rw e rest

-- class numbers and codes

-- the places that class numbers and codes name
abbrev named : List ℕ → List ℕ → List (Option CodePlace)
named [] codes = []
named (k ∷ classes) [] = []
named (k ∷ classes) (c ∷ codes) = Some (record { class = k; code = c }) ∷ named classes codes

named_back : (classes codes : List ℕ) → length codes ≡ length classes → row_of (named classes codes) ≡ record { classes = classes; codes = codes }
named_back [] [] long = refl
named_back [] (c ∷ codes) long = absurd (omega arith)
named_back (k ∷ classes) [] long = absurd (omega arith)
named_back (k ∷ classes) (c ∷ codes) long =
    ap (λ (r : CodedRow). let more : CodedRow = record { classes = k ∷ r.classes; codes = c ∷ r.codes } in more) (named_back classes codes (omega arith))

named_some : (classes codes : List ℕ) → list_all is_some (named classes codes) ≡ true
named_some [] codes = refl
named_some (k ∷ classes) [] = refl
named_some (k ∷ classes) (c ∷ codes) = named_some classes codes

-- a row that codes stand for has these places
places_again : FindsDecoded → (columns : List Classes) (classes codes : List ℕ) → length classes ≡ length columns → length codes ≡ length columns → list_all are_classes columns ≡ true
    → below_sizes columns classes codes ≡ true → places_of columns (decoded_row columns classes codes) ≡ named classes codes
places_again finds [] [] codes as_many long valid below = refl
places_again finds [] (k ∷ classes) codes as_many long valid below = absurd (omega arith)
places_again finds (column ∷ columns) [] codes as_many long valid below = absurd (omega arith)
places_again finds (column ∷ columns) (k ∷ classes) [] as_many long valid below = absurd (omega arith)
places_again finds (column ∷ columns) (k ∷ classes) (c ∷ codes) as_many long valid below =
    let parts = and_parts (are_classes column) (list_all are_classes columns) valid in
    let low = and_parts (nat_lt c (length (class_at column k))) (below_sizes columns classes codes) below in
    let v = get_or (class_at column k) c (Int (pos 0)) in
    let is : decoded column k c ≡ Some v = slice_get-get_or (class_at column k) c (Int (pos 0)) (ltb-true c (length (class_at column k)) low.0) in
    let here : place_of_value column (unwrap_or (decoded column k c) (Int (pos 0))) ≡ Some (record { class = k; code = c }) =
    ap (λ o. place_of_value column (unwrap_or o (Int (pos 0)))) is ∙ finds column k c v is parts.0 in
    let rest = places_again finds columns classes codes (omega arith) (omega arith) parts.1 low.1 in
    ap (λ o. o ∷ places_of columns (decoded_row columns classes codes)) here ∙ ap (λ l. Some (record { class = k; code = c }) ∷ l) rest

-- a row of a cell
abbrev row_in : List ℕ → List ℕ → CodedRow
row_in classes codes = record { classes = classes; codes = codes }

-- the rows of cells with their class numbers
abbrev spread : List CellImage → List CodedRow
spread [] = []
spread (cell ∷ cells) = map (row_in cell.classes) cell.rows ++ spread cells

rows_again : FindsDecoded → (columns : List Classes) (classes : List ℕ) (rows : List (List ℕ)) → length classes ≡ length columns → list_all are_classes columns ≡ true → list_all (are_codes columns classes) rows ≡ true
    → (list_all (is_coded columns) (map (decoded_row columns classes) rows) ≡ true) × (map (coded columns) (map (decoded_row columns classes) rows) ≡ map (row_in classes) rows)
rows_again finds columns classes [] as_many valid all = (refl, refl)
rows_again finds columns classes (codes ∷ rows) as_many valid all =
    let parts = and_parts (are_codes columns classes codes) (list_all (are_codes columns classes) rows) all in
    let here = and_parts (length codes == length columns) (below_sizes columns classes codes) parts.0 in
    let long = eqb-true (length codes) (length columns) here.0 in
    let places = places_again finds columns classes codes as_many long valid here.1 in
    let rest = rows_again finds columns classes rows as_many valid parts.1 in (
      and_from (is_coded columns (decoded_row columns classes codes)) (list_all (is_coded columns) (map (decoded_row columns classes) rows)) (ap (list_all is_some) places ∙ named_some classes codes) rest.0,
      ap (λ r. r ∷ map (coded columns) (map (decoded_row columns classes) rows)) (ap row_of places ∙ named_back classes codes (long ∙ sym as_many)) ∙ ap (λ l. row_in classes codes ∷ l) rest.1,
    )

cells_again : FindsDecoded → (image : TableImage) (cells : List CellImage) → list_all are_classes image.columns ≡ true → list_all (is_cell image.columns) cells ≡ true
    → (list_all (is_coded image.columns) (flat_map (cell_rows image) cells) ≡ true) × (map (coded image.columns) (flat_map (cell_rows image) cells) ≡ spread cells)
cells_again finds image [] valid all = (refl, refl)
cells_again finds image (cell ∷ cells) valid all =
    let columns = image.columns in
    let parts = and_parts (is_cell columns cell) (list_all (is_cell columns) cells) all in
    let three = and_parts (are_numbers columns cell.classes && is_row_count cell.rows) (list_all (are_codes columns cell.classes) cell.rows) parts.0 in
    let two = and_parts (are_numbers columns cell.classes) (is_row_count cell.rows) three.0 in
    let one = and_parts (length cell.classes == length columns) _ two.0 in
    let here = rows_again finds columns cell.classes cell.rows (eqb-true (length cell.classes) (length columns) one.0) valid three.1 in
    let rest = cells_again finds image cells valid parts.1 in (
      list_all-append (is_coded columns) (cell_rows image cell) (flat_map (cell_rows image) cells) ∙ and_from (list_all (is_coded columns) (cell_rows image cell)) (list_all (is_coded columns) (flat_map (cell_rows image) cells)) here.0 rest.0,
      map-append (coded columns) (cell_rows image cell) (flat_map (cell_rows image) cells) ∙ ap (λ l. l ++ map (coded columns) (flat_map (cell_rows image) cells)) here.1 ∙ ap (λ l. map (row_in cell.classes) cell.rows ++ l) rest.1,
    )

-- the cells of spread rows

abbrev others : List ℕ → List ℕ → Bool
others k j = not (same_cell k j)

-- the class numbers of a cell's rows count once
run_once : (k : List ℕ) (rows : List (List ℕ)) (ks : List (List ℕ)) → filter (others k) (once_each same_cell (map (λ r. r.classes) (map (row_in k) rows) ++ ks)) ≡ filter (others k) (once_each same_cell ks)
run_once k [] ks = refl
run_once k (codes ∷ rows) ks =
    rw (ap not (same_itself k)) (filter-twice (others k) (once_each same_cell (map (λ r. r.classes) (map (row_in k) rows) ++ ks)) ∙ run_once k rows ks)

others_all : (k : List ℕ) (ks : List (List ℕ)) → list_any (same_cell k) ks ≡ false → filter (others k) ks ≡ ks
others_all k [] none = refl
others_all k (j ∷ ks) none =
    let parts = or_parts (same_cell k j) (list_any (same_cell k) ks) none in
    rw (ap not parts.0) (ap (λ l. j ∷ l) (others_all k ks parts.1))

keys_once : (cells : List CellImage) → list_all (λ cell. nat_le 1 (length cell.rows)) cells ≡ true → are_distinct same_cell (keys_in cells) ≡ true → once_each same_cell (map (λ r. r.classes) (spread cells)) ≡ keys_in cells
keys_once [] some each = refl
keys_once (cell ∷ cells) some each =
    let parts = and_parts (nat_le 1 (length cell.rows)) (list_all (λ c. nat_le 1 (length c.rows)) cells) some in
    let apart = and_parts (not (list_any (same_cell cell.classes) (keys_in cells))) (are_distinct same_cell (keys_in cells)) each in
    by cell.rows parts.0 (keys_once cells parts.1 apart.1) (not-true _ apart.0)
  where
    by : (rows : List (List ℕ)) → nat_le 1 (length rows) ≡ true → once_each same_cell (map (λ r. r.classes) (spread cells)) ≡ keys_in cells → list_any (same_cell cell.classes) (keys_in cells) ≡ false
        → once_each same_cell (map (λ r. r.classes) (map (row_in cell.classes) rows ++ spread cells)) ≡ cell.classes ∷ keys_in cells
    by [] none rest new = absurd (true≢false (sym none))
    by (codes ∷ rows) one rest new =
        ap (once_each same_cell) (map-append (λ (r : CodedRow). r.classes) (map (row_in cell.classes) (codes ∷ rows)) (spread cells))
        ∙ ap (λ l. cell.classes ∷ l) (run_once cell.classes rows (map (λ (r : CodedRow). r.classes) (spread cells)) ∙ ap (filter (others cell.classes)) rest ∙ others_all cell.classes (keys_in cells) new)

own_rows : (k : List ℕ) (rows : List (List ℕ)) → map (λ (r : CodedRow). r.codes) (filter (λ (r : CodedRow). same_cell k r.classes) (map (row_in k) rows)) ≡ rows
own_rows k [] = refl
own_rows k (codes ∷ rows) = rw (same_itself k) (ap (λ l. codes ∷ l) (own_rows k rows))

other_rows : (k j : List ℕ) (rows : List (List ℕ)) → same_cell k j ≡ false → filter (λ (r : CodedRow). same_cell k r.classes) (map (row_in j) rows) ≡ []
other_rows k j [] other = refl
other_rows k j (codes ∷ rows) other = rw other (other_rows k j rows other)

no_rows : (k : List ℕ) (cells : List CellImage) → list_any (same_cell k) (keys_in cells) ≡ false → filter (λ (r : CodedRow). same_cell k r.classes) (spread cells) ≡ []
no_rows k [] none = refl
no_rows k (cell ∷ cells) none =
    let parts = or_parts (same_cell k cell.classes) (list_any (same_cell k) (keys_in cells)) none in
    filter-append (λ (r : CodedRow). same_cell k r.classes) (map (row_in cell.classes) cell.rows) (spread cells) ∙ rw (other_rows k cell.classes cell.rows parts.0, no_rows k cells parts.1) refl

-- rows of another cell make no difference
later_cells : (j : List ℕ) (rows : List (List ℕ)) (more : List CodedRow) (ks : List (List ℕ)) → list_any (same_cell j) ks ≡ false → map (cell_of (map (row_in j) rows ++ more)) ks ≡ map (cell_of more) ks
later_cells j rows more [] none = refl
later_cells j rows more (k ∷ ks) none =
    let parts = or_parts (same_cell j k) (list_any (same_cell j) ks) none in
    let here : filter (λ (r : CodedRow). same_cell k r.classes) (map (row_in j) rows ++ more) ≡ filter (λ (r : CodedRow). same_cell k r.classes) more =
    filter-append (λ (r : CodedRow). same_cell k r.classes) (map (row_in j) rows) more ∙ rw (other_rows k j rows (same_back k j ∙ parts.0)) refl in
    let rest = later_cells j rows more ks parts.1 in
    ap (λ (l : List CodedRow). let c : CellImage = record { classes = k; rows = map (λ (r : CodedRow). r.codes) l } in c ∷ map (cell_of (map (row_in j) rows ++ more)) ks) here
    ∙ ap (λ l. cell_of more k ∷ l) rest

cells_back : (cells : List CellImage) → are_distinct same_cell (keys_in cells) ≡ true → map (cell_of (spread cells)) (keys_in cells) ≡ cells
cells_back [] each = refl
cells_back (cell ∷ cells) each =
    let apart = and_parts (not (list_any (same_cell cell.classes) (keys_in cells))) (are_distinct same_cell (keys_in cells)) each in
    let new = not-true _ apart.0 in
    let k = cell.classes in
    let here : filter (λ (r : CodedRow). same_cell k r.classes) (map (row_in k) cell.rows ++ spread cells) ≡ filter (λ (r : CodedRow). same_cell k r.classes) (map (row_in k) cell.rows) =
    filter-append (λ (r : CodedRow). same_cell k r.classes) (map (row_in k) cell.rows) (spread cells) ∙ rw (no_rows k cells new) (append-nil _) in
    let codes = ap (map (λ (r : CodedRow). r.codes)) here ∙ own_rows k cell.rows in
    let rest = later_cells k cell.rows (spread cells) (keys_in cells) new ∙ cells_back cells apart.1 in
    ap (λ (l : List (List ℕ)). let c : CellImage = record { classes = k; rows = l } in c ∷ map (cell_of (map (row_in k) cell.rows ++ spread cells)) (keys_in cells)) codes
    ∙ ap (λ l. cell ∷ l) rest

-- cells that rise are those of their rows
cells_stand : (cells : List CellImage) → list_all (λ cell. nat_le 1 (length cell.rows)) cells ≡ true → rises cell_cmp (keys_in cells) ≡ true → cells_of (spread cells) ≡ cells
cells_stand cells some up =
    let each = distinct_rises cell_cmp nat_list_cmp_total (keys_in cells) up in
    ap (λ ks. map (cell_of (spread cells)) (in_order cell_cmp ks)) (keys_once cells some each)
    ∙ ap (map (cell_of (spread cells))) (in_order_rising cell_cmp (keys_in cells) up) ∙ cells_back cells each

-- a cell has a row
pub filled : (columns : List Classes) (cell : CellImage) → is_cell columns cell ≡ true → nat_le 1 (length cell.rows) ≡ true
filled columns cell is =
    let three = and_parts (are_numbers columns cell.classes && is_row_count cell.rows) (list_all (are_codes columns cell.classes) cell.rows) is in
    (and_parts (nat_le 1 (length cell.rows)) _ (and_parts (are_numbers columns cell.classes) (is_row_count cell.rows) three.0).1).0

-- a valid image is its own rows placed
pub stands_placed : FindsDecoded → StandsPlaced
stands_placed finds image valid =
    let has = valid_parts image valid in
    let classes = (divided_classes image.schema image.columns has.divided).1 in
    let columns = image.columns in
    let of_cells = flat_map (cell_rows image) image.cells in
    let again = cells_again finds image image.cells classes has.cells in
    let some = all-imply (is_cell columns) (λ cell. nat_le 1 (length cell.rows)) (λ cell h. filled columns cell h) image.cells has.cells in
    let none = all-imply (is_rest_row image) (λ row. not (is_coded columns row)) (λ row h. (and_parts (fits image.schema row) (not (is_coded columns row)) h).1) image.rest has.rest in
    let coded_part : filter (is_coded columns) (of_cells ++ image.rest) ≡ of_cells =
    filter-append (is_coded columns) of_cells image.rest ∙ rw (all_pass (is_coded columns) of_cells again.0, none_pass (is_coded columns) image.rest none) (append-nil of_cells) in
    let cells : cells_of (map (coded columns) (filter (is_coded columns) (of_cells ++ image.rest))) ≡ image.cells =
    ap (λ l. cells_of (map (coded columns) l)) coded_part ∙ ap cells_of again.1 ∙ cells_stand image.cells some has.rising in
    let rest : filter (λ row. not (is_coded columns row)) (of_cells ++ image.rest) ≡ image.rest =
    filter-append (λ row. not (is_coded columns row)) of_cells image.rest
    ∙ rw (
      none_pass (λ row. not (is_coded columns row)) of_cells (all-imply (is_coded columns) (λ row. not (not (is_coded columns row))) (λ row h. ap (λ b. not (not b)) h) of_cells again.0),
      all_pass (λ row. not (is_coded columns row)) image.rest none,
    ) refl in
    λ i. record { schema = image.schema; columns = image.columns; cells = cells i; rest = rest i }
