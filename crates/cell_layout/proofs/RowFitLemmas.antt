-- The rows of a valid image fit its schema, and what may come behind them.
use Rattle.std.proofs.Common.{◌≡◌, ◌≤◌, ◌<◌, ℕ, zero, suc, pos, ◌+◌, Bool, true, not, ◌&&◌, ◌==◌, List, [], ◌∷◌, ◌++◌, Option, Some, None, map, length, get_or, nat_le, nat_lt, unwrap_or, All, IfSome, cond, count_by, refl, sym, ap, ◌∙◌, arith}
use Rattle.std.specs.List.{list_all, flat_map, zip}
use Rattle.std.proofs.lemmas.Bool.{and_parts, and_from, ltb-true, leb-true, le-leb, eqb-true, eq-eqb}
use Rattle.std.proofs.lemmas.List.Folds.{list_all-append, list_all-map}
use Rattle.std.specs.Str.{bytes_eq}
use Rattle.std.proofs.lemmas.List.{length-append, length-map}
use Rattle.std.proofs.lemmas.List.Sums.{sum_by-cons}
use Rattle.std.proofs.lemmas.Option.{slice_get-get_or}
use Rattle.blink_base.specs.Identifiers.{is_name}
use Rattle.blink_lists.specs.Lists.{joined, are_distinct}
use Rattle.blink_base.specs.declared.value.Value.{Value}
use Rattle.blink_base.specs.declared.value.Value.TheVariants.{Int}
use Rattle.blink_base.specs.declared.schema.Column.{Column}
use Rattle.blink_base.specs.declared.schema.Schema.{Schema}
use Rattle.blink_base.specs.Values.{Row}
use Rattle.blink_base.specs.RowFits.{fits, is_entry, is_schema, is_key_of}
use Rattle.order_codes.specs.Codes.{DecodesFound}
use Rattle.order_codes.specs.Dictionary.{Classes, are_classes, class_at, decoded}
use Rattle.cell_layout.specs.declared.cell.Cell.{Cell}
use Rattle.cell_layout.specs.CellRepr.{image_of, cell_image}
use Rattle.cell_layout.specs.Image.{TableImage, CellImage, decoded_row, cell_rows, rows_of, row_count, is_coded}
use Rattle.cell_layout.specs.Layout.{empty_image}
use Rattle.cell_layout.specs.Refusals.{duplicate_in}
use Rattle.cell_layout.specs.Valid.{are_codes, is_cell, is_row_count, is_rest_row, is_valid, are_keyed, MayHold}
use Rattle.column_classes.specs.ColumnClasses.{are_column_classes, are_divided}
use Rattle.blink_lists.specs.declared.limits.TheConstants.{MOST_ROWS, MOST_COLUMNS, MOST_DIVIDED}
use Rattle.blink_lists.proofs.GroupLemmas.{all-imply}
use Rattle.cell_layout.proofs.CodedRowLemmas.{below_sizes, are_numbers}
use Rattle.blink_lists.proofs.AllLemmas.{all_at, all-flat_map}
use Rattle.blink_lists.proofs.ZipLemmas.{length-map-zip}
use Rattle.cell_layout.proofs.PlacedImageLemmas.{valid_parts, placed_valid}
use Rattle.cell_layout.proofs.KeyedRowLemmas.{keyed_behind}

-- what every value of a column passes, one of a class does
joined-at : {X : Type 0} (p : X → Bool) (xss : List (List X)) (k i : ℕ) (d : X) → list_all p (joined xss) ≡ true → i < length (get_or xss k []) → p (get_or (get_or xss k []) i d) ≡ true
joined-at p [] k i d all lt = absurd (omega arith)
joined-at p (xs ∷ xss) zero i d all lt = all_at p xs i d (and_parts (list_all p xs) (list_all p (joined xss)) (sym (list_all-append p xs (joined xss)) ∙ all)).0 lt
joined-at p (xs ∷ xss) (suc k) i d all lt = joined-at p xss k i d (and_parts (list_all p xs) (list_all p (joined xss)) (sym (list_all-append p xs (joined xss)) ∙ all)).1 lt

-- a row that codes stand for is of its columns' kinds
decoded_entries : (schema : List Column) (columns : List Classes) (classes codes : List ℕ) → length columns ≡ length schema → length classes ≡ length columns → length codes ≡ length columns
    → list_all (λ p. are_column_classes p.0 p.1) (zip schema columns) ≡ true → below_sizes columns classes codes ≡ true
    → list_all (λ p. is_entry p.0.kind p.1) (zip schema (decoded_row columns classes codes)) ≡ true
decoded_entries [] columns classes codes as_many same long all below = refl
decoded_entries (column ∷ schema) [] classes codes as_many same long all below = absurd (omega arith)
decoded_entries (column ∷ schema) (values ∷ columns) [] codes as_many same long all below = absurd (omega arith)
decoded_entries (column ∷ schema) (values ∷ columns) (k ∷ classes) [] as_many same long all below = absurd (omega arith)
decoded_entries (column ∷ schema) (values ∷ columns) (k ∷ classes) (c ∷ codes) as_many same long all below =
    let parts = and_parts (are_column_classes column values) (list_all (λ p. are_column_classes p.0 p.1) (zip schema columns)) all in
    let low = and_parts (nat_lt c (length (class_at values k))) (below_sizes columns classes codes) below in
    let within = ltb-true c (length (class_at values k)) low.0 in
    let is : unwrap_or (decoded values k c) (Int (pos 0)) ≡ get_or (class_at values k) c (Int (pos 0)) = ap (λ o. unwrap_or o (Int (pos 0))) (slice_get-get_or (class_at values k) c (Int (pos 0)) within) in
    let entry = joined-at (is_entry column.kind) values k c (Int (pos 0)) (and_parts (are_classes values) (list_all (is_entry column.kind) (joined values)) parts.0).1 within in
    and_from (is_entry column.kind (unwrap_or (decoded values k c) (Int (pos 0)))) (list_all (λ p. is_entry p.0.kind p.1) (zip schema (decoded_row columns classes codes)))
    (ap (is_entry column.kind) is ∙ entry) (decoded_entries schema columns classes codes (omega arith) (omega arith) (omega arith) parts.1 low.1)

-- so is each row of a cell
cell_fits : (image : TableImage) (cell : CellImage) → are_divided image.schema image.columns ≡ true → is_cell image.columns cell ≡ true → list_all (fits image.schema) (cell_rows image cell) ≡ true
cell_fits image cell divided good =
    let schema = image.schema in
    let columns = image.columns in
    let parts = and_parts (length columns == length schema.columns && list_all (λ p. are_column_classes p.0 p.1) (zip schema.columns columns)) _ divided in
    let each = and_parts (length columns == length schema.columns) (list_all (λ p. are_column_classes p.0 p.1) (zip schema.columns columns)) parts.0 in
    let as_many = eqb-true (length columns) (length schema.columns) each.0 in
    let three = and_parts (are_numbers columns cell.classes && is_row_count cell.rows) (list_all (are_codes columns cell.classes) cell.rows) good in
    let two = and_parts (are_numbers columns cell.classes) (is_row_count cell.rows) three.0 in
    let same = eqb-true (length cell.classes) (length columns) (and_parts (length cell.classes == length columns) _ two.0).0 in
    list_all-map (fits schema) (decoded_row columns cell.classes) cell.rows
    ∙ all-imply (are_codes columns cell.classes) (λ codes. fits schema (decoded_row columns cell.classes codes))
    (λ codes h.
    let here = and_parts (length codes == length columns) (below_sizes columns cell.classes codes) h in
    let long = eqb-true (length codes) (length columns) here.0 in
    and_from (length (decoded_row columns cell.classes codes) == length schema.columns) (list_all (λ p. is_entry p.0.kind p.1) (zip schema.columns (decoded_row columns cell.classes codes)))
    (eq-eqb _ _ (length-map-zip (λ (p : (List (List Value) × ℕ) × ℕ). unwrap_or (decoded p.0.0 p.0.1 p.1) (Int (pos 0))) columns cell.classes codes same long ∙ as_many))
    (decoded_entries schema.columns columns cell.classes codes as_many same long each.1 here.1)) cell.rows three.1

-- the rows of a valid image fit its schema
pub valid_fits : (image : TableImage) → is_valid image ≡ true → list_all (fits image.schema) (rows_of image) ≡ true
valid_fits image valid =
    let has = valid_parts image valid in
    list_all-append (fits image.schema) (flat_map (cell_rows image) image.cells) image.rest
    ∙ and_from (list_all (fits image.schema) (flat_map (cell_rows image) image.cells)) (list_all (fits image.schema) image.rest)
    (all-flat_map (fits image.schema) (cell_rows image) image.cells ∙ all-imply (is_cell image.columns) (λ cell. list_all (fits image.schema) (cell_rows image cell)) (λ cell h. cell_fits image cell has.divided h) image.cells has.cells)
    (all-imply (is_rest_row image) (fits image.schema) (λ row h. (and_parts (fits image.schema row) (not (is_coded image.columns row)) h).0) image.rest has.rest)

-- rows that fit have a value a column
pub fits_long : (schema : Schema) (rows : List Row) (n : ℕ) → list_all (fits schema) rows ≡ true → n ≡ length schema.columns → All (λ (row : Row). length row ≡ n) rows
fits_long schema rows n all same k d lt =
    let here = all_at (fits schema) rows k d all lt in
    eqb-true (length (get_or rows k d)) (length schema.columns) (and_parts (length (get_or rows k d) == length schema.columns) _ here).0 ∙ sym same

-- what may stand behind the rows of a valid image
pub may_hold : (image : TableImage) (batch : List Row) → is_valid image ≡ true → list_all (fits image.schema) batch ≡ true → row_count image + length batch ≤ MOST_ROWS → duplicate_in image.schema.key (rows_of image) batch ≡ None
    → MayHold image.schema (rows_of image ++ batch)
may_hold image batch valid fit few new =
    let has = valid_parts image valid in
    let long = length-append (rows_of image) batch in
    record {
      allowed = has.allowed;
      few = omega arith;
      fit = list_all-append (fits image.schema) (rows_of image) batch ∙ and_from (list_all (fits image.schema) (rows_of image)) (list_all (fits image.schema) batch) (valid_fits image valid) fit;
      keyed = keyed_behind image.schema.key (rows_of image) batch has.keyed new;
    }

-- what a schema may have
pub record HasBounds (schema : Schema) : Type 0 where
  pub few : length schema.columns ≤ MOST_COLUMNS
  pub key : IfSome schema.key (λ k. k < length schema.columns)

pub schema_bounds : (schema : Schema) → is_schema schema ≡ true → HasBounds schema
schema_bounds schema allowed =
    let five = and_parts _ (is_key_of schema.columns schema.key) allowed in
    let four = and_parts _ (are_distinct bytes_eq (map (λ c. c.name) schema.columns)) five.0 in
    let three = and_parts _ (list_all (λ c. is_name c.name) schema.columns) four.0 in
    let two = and_parts (nat_le 1 (length schema.columns)) (nat_le (length schema.columns) MOST_COLUMNS) three.0 in
    record { few = leb-true (length schema.columns) MOST_COLUMNS two.1; key = by schema.key five.1 }
  where
    by : (key : Option ℕ) → is_key_of schema.columns key ≡ true → IfSome key (λ k. k < length schema.columns)
    by None e = tt
    by (Some k) e = ltb-true k (length schema.columns) e

-- no classes
abbrev none_of : Column → Classes
none_of c = []

-- the image of a table without rows is valid
no_classes : (columns : List Column) → list_all (λ p. are_column_classes p.0 p.1) (zip columns (map (λ c. []) columns)) ≡ true
no_classes [] = refl
no_classes (c ∷ columns) = no_classes columns

none_divided : (columns : List Column) → nat_le (count_by (λ (classes : Classes). nat_lt 1 (length classes)) (map (λ c. []) columns)) MOST_DIVIDED ≡ true
none_divided columns = let none = zero_of columns in le-leb (count_by (λ (classes : Classes). nat_lt 1 (length classes)) (map (λ c. []) columns)) MOST_DIVIDED (omega arith)
  where
    zero_of : (columns : List Column) → count_by (λ (classes : Classes). nat_lt 1 (length classes)) (map (λ c. []) columns) ≡ 0
    zero_of [] = refl
    zero_of (c ∷ columns) = let first = sum_by-cons (λ (classes : Classes). cond (nat_lt 1 (length classes)) 1 0) [] (map (λ c. []) columns) in let rest = zero_of columns in omega arith

pub empty_valid : DecodesFound → (schema : Schema) → is_schema schema ≡ true → is_valid (empty_image schema) ≡ true
empty_valid decodes schema allowed =
    let columns : List Classes = map (λ c. []) schema.columns in
    let divided : are_divided schema (map (λ c. []) schema.columns) ≡ true =
    and_from (length (map none_of schema.columns) == length schema.columns && list_all (λ p. are_column_classes p.0 p.1) (zip schema.columns (map (λ c. []) schema.columns))) _
    (and_from (length (map none_of schema.columns) == length schema.columns) _ (eq-eqb _ _ (length-map schema.columns none_of)) (no_classes schema.columns)) (none_divided schema.columns) in
    (placed_valid decodes schema (map (λ c. []) schema.columns) [] divided (record { allowed = allowed; few = omega arith; fit = refl; keyed = keyed schema.key })).0
  where
    keyed : (key : Option ℕ) → are_keyed key [] ≡ true
    keyed None = refl
    keyed (Some k) = refl

pub empty_image_valid : DecodesFound → (schema : Schema) (list : List Column) (columns : List Classes) (cells : List Cell) (rest : List Row) → is_schema schema ≡ true → list ≡ schema.columns → columns ≡ map (λ column. []) list → cells ≡ [] → rest ≡ [] → is_valid (image_of schema columns cells rest) ≡ true
empty_image_valid decodes schema list columns cells rest allowed seen no_classes_yet no_cells no_rest = ap is_valid same ∙ empty_valid decodes schema allowed
  where
    same : image_of schema columns cells rest ≡ empty_image schema
    same =
        let made : columns ≡ map none_of schema.columns = no_classes_yet ∙ ap (map none_of) seen in
        λ i. record { schema = schema; columns = made i; cells = map cell_image (no_cells i); rest = no_rest i }
