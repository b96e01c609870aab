-- Rows of the cells of a valid image.
use Rattle.std.proofs.Common.{◌≡◌, ◌<◌, ◌==◌, ℕ, Bool, true, ◌&&◌, [], map, length, nat_le, nat_lt, Some, slice_index_or, ap, ◌∙◌}
use Rattle.std.specs.Prelude.{IsTrue, pos, unwrap_or}
use Rattle.std.specs.List.{list_all, zip}
use Rattle.std.proofs.lemmas.Bool.{and_parts, eqb-true, ltb-true}
use Rattle.blink_base.specs.declared.value.Value.{Value}
use Rattle.blink_base.specs.declared.value.Value.TheVariants.{Int}
use Rattle.blink_base.specs.RowFits.{is_schema}
use Rattle.blink_lists.specs.Lists.{rises}
use Rattle.blink_lists.proofs.AllLemmas.{all_at}
use Rattle.blink_lists.proofs.ZipLemmas.{zip-at, map-zip-at}
use Rattle.order_codes.specs.Dictionary.{class_at, decoded}
use Rattle.column_classes.specs.ColumnClasses.{are_divided}
use Rattle.cell_layout.specs.Image.{TableImage, cell_at, rows_of}
use Rattle.cell_layout.specs.Layout.{cell_cmp}
use Rattle.cell_layout.specs.Valid.{is_valid, is_cell, are_codes, is_row_count, is_rest_row, are_keyed, most_cell_rows}
use Rattle.dim_filter.specs.Entries.{cell_row}

third : (a b c d e f g : Bool) → (a && b && c && d && e && f && g) ≡ true → c ≡ true
third a b c d e f g h =
    let p = and_parts (a && b && c && d && e && f) g h in
    let q = and_parts (a && b && c && d && e) f p.0 in
    let r = and_parts (a && b && c && d) e q.0 in
    (and_parts (a && b) c (and_parts (a && b && c) d r.0).0).1

-- the cells of a valid image are cells of its columns
valid_cells : (image : TableImage) → IsTrue (is_valid image) → list_all (is_cell image.columns) image.cells ≡ true
valid_cells image h =
    third (is_schema image.schema) (are_divided image.schema image.columns) (list_all (is_cell image.columns) image.cells) (rises cell_cmp (map (λ cell. cell.classes) image.cells)) (list_all (is_rest_row image) image.rest)
    (nat_le (length image.rest) most_cell_rows) (are_keyed image.schema.key (rows_of image)) h

module _ (image : TableImage) (cell row : ℕ) (valid : IsTrue (is_valid image)) (in_cells : cell < length image.cells) (in_rows : row < length (cell_at image cell).rows) where
  cell_is : is_cell image.columns (cell_at image cell) ≡ true
  cell_is = all_at (is_cell image.columns) image.cells cell (record { classes = []; rows = [] }) (valid_cells image valid) in_cells

  rows_are : ((length (cell_at image cell).classes == length image.columns) && list_all (λ p. nat_lt p.1 (length p.0)) (zip image.columns (cell_at image cell).classes) && is_row_count (cell_at image cell).rows ≡ true)
      × (list_all (are_codes image.columns (cell_at image cell).classes) (cell_at image cell).rows ≡ true)
  rows_are =
      and_parts ((length (cell_at image cell).classes == length image.columns) && list_all (λ p. nat_lt p.1 (length p.0)) (zip image.columns (cell_at image cell).classes) && is_row_count (cell_at image cell).rows)
      (list_all (are_codes image.columns (cell_at image cell).classes) (cell_at image cell).rows) cell_is

  pub classes_full : length (cell_at image cell).classes ≡ length image.columns
  classes_full =
      eqb-true (length (cell_at image cell).classes) (length image.columns)
      (and_parts (length (cell_at image cell).classes == length image.columns) (list_all (λ p. nat_lt p.1 (length p.0)) (zip image.columns (cell_at image cell).classes))
      (and_parts ((length (cell_at image cell).classes == length image.columns) && list_all (λ p. nat_lt p.1 (length p.0)) (zip image.columns (cell_at image cell).classes)) (is_row_count (cell_at image cell).rows) rows_are.0).0).0

  codes_are : (length (slice_index_or (cell_at image cell).rows row []) == length image.columns ≡ true)
      × (list_all (λ p. nat_lt p.1 (length (class_at p.0.0 p.0.1))) (zip (zip image.columns (cell_at image cell).classes) (slice_index_or (cell_at image cell).rows row [])) ≡ true)
  codes_are =
      and_parts (length (slice_index_or (cell_at image cell).rows row []) == length image.columns)
      (list_all (λ p. nat_lt p.1 (length (class_at p.0.0 p.0.1))) (zip (zip image.columns (cell_at image cell).classes) (slice_index_or (cell_at image cell).rows row [])))
      (all_at (are_codes image.columns (cell_at image cell).classes) (cell_at image cell).rows row [] rows_are.1 in_rows)

  codes_full : length (slice_index_or (cell_at image cell).rows row []) ≡ length image.columns
  codes_full = eqb-true (length (slice_index_or (cell_at image cell).rows row [])) (length image.columns) codes_are.0

  -- a code is below the size of its class
  pub code_within : (column : ℕ) → column < length image.columns
      → slice_index_or (slice_index_or (cell_at image cell).rows row []) column 0 < length (class_at (slice_index_or image.columns column []) (slice_index_or (cell_at image cell).classes column 0))
  code_within column lt =
      ltb-true (slice_index_or (slice_index_or (cell_at image cell).rows row []) column 0) (length (class_at (slice_index_or image.columns column []) (slice_index_or (cell_at image cell).classes column 0)))
      (zip-at (λ p. nat_lt p.1 (length (class_at p.0.0 p.0.1))) image.columns (cell_at image cell).classes (slice_index_or (cell_at image cell).rows row []) column [] 0 0 codes_are.1 lt classes_full codes_full)

  -- what a code stands for is the row's value
  pub value_decoded : (column : ℕ) (v : Value) → column < length image.columns
      → decoded (slice_index_or image.columns column []) (slice_index_or (cell_at image cell).classes column 0) (slice_index_or (slice_index_or (cell_at image cell).rows row []) column 0) ≡ Some v
      → slice_index_or (cell_row image cell row) column (Int (pos 0)) ≡ v
  value_decoded column v lt found =
      map-zip-at (λ p. unwrap_or (decoded p.0.0 p.0.1 p.1) (Int (pos 0))) image.columns (cell_at image cell).classes (slice_index_or (cell_at image cell).rows row []) column [] 0 0 (Int (pos 0)) lt classes_full codes_full
      ∙ ap (λ o. unwrap_or o (Int (pos 0))) found
