-- Keys of chosen rows of the first two cells of a valid image are distinct.
use Rattle.std.proofs.Common.{◌≡◌, ◌≤◌, ℕ, zero, suc, Bool, true, false, ◌&&◌, List, [], ◌∷◌, ◌++◌, map, filter, cond, drop, length, nat_le, slice_index_or, Option, Some, None, refl, sym, ap, ◌∙◌, subst, true≢false, arith}
use Rattle.std.specs.Prelude.{IsTrue, IsSome, pos, unwrap_or}
use Rattle.std.specs.List.{list_all, flat_map, zip}
use Rattle.std.specs.Map.{keys_of}
use Rattle.std.proofs.lemmas.Bool.{and_parts}
use Rattle.std.proofs.lemmas.List.{length-take, length-map, map-append}
use Rattle.blink_base.specs.declared.value.Value.TheVariants.{Int}
use Rattle.blink_base.specs.Values.{Row, same_value}
use Rattle.blink_base.specs.RowFits.{is_schema}
use Rattle.blink_lists.specs.Lists.{any_true, are_distinct, rises}
use Rattle.blink_lists.specs.declared.limits.TheConstants.{PAGE_ROWS}
use Rattle.column_classes.specs.ColumnClasses.{are_divided, column_values}
use Rattle.cell_layout.specs.Image.{TableImage, CellImage, cell_at, cell_rows, decoded_row, rows_of}
use Rattle.cell_layout.specs.Layout.{cell_cmp}
use Rattle.cell_layout.specs.Valid.{is_valid, is_cell, is_rest_row, are_keyed, most_cell_rows}
use Rattle.cell_scan.specs.Match.{rows_of_page, selected_rows}
use Rattle.code_join.specs.Keys.{Keyed, are_keys}
use Rattle.dim_filter.specs.Entries.{entry_of, collected, key_column, chosen_rows}
use Rattle.join_tests.proofs.PartLemmas.{Part, both, in-front, chosen, mapped, distinct-part}

-- rows of the first page of a cell are rows of the cell
page-part : (image : TableImage) (cell : ℕ) (bits : List Bool) → Part (chosen_rows image cell 0 bits) (cell_rows image (cell_at image cell))
page-part image cell bits = mapped (decoded_row image.columns (cell_at image cell).classes) (chosen bits PAGE_ROWS (cell_at image cell).rows)

-- rows of the first two cells are rows of the table
one-cell : (image : TableImage) (cells : List CellImage) (d : CellImage) (more rows : List Row) → length cells ≡ 2 → Part rows (cell_rows image (slice_index_or cells 0 d)) → Part rows (flat_map (cell_rows image) cells ++ more)
one-cell image [] d more rows e p = absurd (omega (arith, e))
one-cell image (a ∷ cells) d more rows e p = in-front more (in-front (flat_map (cell_rows image) cells) p)

two-cells : (image : TableImage) (cells : List CellImage) (d : CellImage) (more first second : List Row) → length cells ≡ 2
    → Part first (cell_rows image (slice_index_or cells 0 d)) → Part second (cell_rows image (slice_index_or cells 1 d)) → Part (first ++ second) (flat_map (cell_rows image) cells ++ more)
two-cells image [] d more first second e p q = absurd (omega (arith, e))
two-cells image (a ∷ []) d more first second e p q = absurd (omega (arith, e))
two-cells image (a ∷ b ∷ cells) d more first second e p q = in-front more (both p (in-front (flat_map (cell_rows image) cells) q))

entry-keys : (key : ℕ) (wanted : List ℕ) (rows : List Row) → keys_of (map (entry_of key wanted) rows) ≡ column_values rows key
entry-keys key wanted [] = refl
entry-keys key wanted (row ∷ rows) = ap (λ l. slice_index_or row key (Int (pos 0)) ∷ l) (entry-keys key wanted rows)

-- the keys of a valid image are distinct
own-keys : (image : TableImage) → IsTrue (is_valid image) → IsSome image.schema.key → are_distinct same_value (column_values (rows_of image) (key_column image)) ≡ true
own-keys image valid some =
    by image.schema.key some
    (and_parts
    (is_schema image.schema && are_divided image.schema image.columns && list_all (is_cell image.columns) image.cells && rises cell_cmp (map (λ cell. cell.classes) image.cells) && list_all (is_rest_row image) image.rest
    && nat_le (length image.rest) most_cell_rows) (are_keyed image.schema.key (rows_of image)) valid).1
  where
    by : (key : Option ℕ) → IsSome key → are_keyed key (rows_of image) ≡ true → are_distinct same_value (column_values (rows_of image) (unwrap_or key 0)) ≡ true
    by None e h = absurd (true≢false (sym e))
    by (Some key) e h = h

-- so are those of a part of its rows
part-keys : (image : TableImage) (wanted : List ℕ) (rows : List Row) → IsTrue (is_valid image) → IsSome image.schema.key → Part rows (rows_of image) → IsTrue (are_keys (map (entry_of (key_column image) wanted) rows))
part-keys image wanted rows valid some part =
    ap (are_distinct same_value) (entry-keys (key_column image) wanted rows)
    ∙ distinct-part same_value (mapped (λ row. slice_index_or row (key_column image) (Int (pos 0))) part) (own-keys image valid some)

module _ (image : TableImage) (wanted : List ℕ) (bits more : List Bool) (valid : IsTrue (is_valid image)) (some : IsSome image.schema.key) (two : length image.cells ≡ 2) where
  first-part : Part (chosen_rows image 0 0 bits) (rows_of image)
  first-part = one-cell image image.cells (record { classes = []; rows = [] }) image.rest (chosen_rows image 0 0 bits) two (page-part image 0 bits)

  both-part : Part (chosen_rows image 0 0 bits ++ chosen_rows image 1 0 more) (rows_of image)
  both-part = two-cells image image.cells (record { classes = []; rows = [] }) image.rest (chosen_rows image 0 0 bits) (chosen_rows image 1 0 more) two (page-part image 0 bits) (page-part image 1 more)

  pub first_keys : IsTrue (are_keys (collected (key_column image) wanted [] (chosen_rows image 0 0 bits)))
  first_keys = part-keys image wanted (chosen_rows image 0 0 bits) valid some first-part

  pub second_keys : IsTrue (are_keys (collected (key_column image) wanted (collected (key_column image) wanted [] (chosen_rows image 0 0 bits)) (chosen_rows image 1 0 more)))
  second_keys =
      subst (λ keys. IsTrue (are_keys keys)) (map-append (entry_of (key_column image) wanted) (chosen_rows image 0 0 bits) (chosen_rows image 1 0 more))
      (part-keys image wanted (chosen_rows image 0 0 bits ++ chosen_rows image 1 0 more) valid some both-part)

pub few_rows : (image : TableImage) (cell : ℕ) (bits : List Bool) → length (chosen_rows image cell 0 bits) ≤ PAGE_ROWS
few_rows image cell bits =
    let e = length-map (selected_rows bits (rows_of_page (cell_at image cell).rows 0)) (decoded_row image.columns (cell_at image cell).classes) in
    let f = short-selected bits (rows_of_page (cell_at image cell).rows 0) in
    let g = length-take PAGE_ROWS (cell_at image cell).rows in
    omega (arith, e, f, g)
  where
    short-selected : (bs : List Bool) (xs : List (List ℕ)) → length (selected_rows bs xs) ≤ length xs
    short-selected [] xs = omega arith
    short-selected (b ∷ bs) [] = omega arith
    short-selected (b ∷ bs) (x ∷ xs) = by b (short-selected bs xs)
      where
        by : (c : Bool) → length (selected_rows bs xs) ≤ length xs → length (map (λ p. p.1) (cond c ((c, x) ∷ filter (λ p. p.0) (zip bs xs)) (filter (λ p. p.0) (zip bs xs)))) ≤ suc (length xs)
        by true h = omega (arith, h)
        by false h = omega (arith, h)

pub few_kept : (image : TableImage) (wanted : List ℕ) (bits : List Bool) (keys : Keyed) → keys ≡ collected (key_column image) wanted [] (chosen_rows image 0 0 bits) → length keys ≤ PAGE_ROWS
few_kept image wanted bits keys e =
    let n = ap length e in
    let f = length-map (chosen_rows image 0 0 bits) (entry_of (key_column image) wanted) in
    let g = few_rows image 0 bits in
    omega (arith, n, f, g)

-- places behind the last row of the one page of a cell are not true
clear_behind : (bits : List Bool) (n : ℕ) → ((k : ℕ) → n ≤ k → slice_index_or bits k false ≡ false) → any_true (drop n bits) ≡ false
clear_behind [] zero clear = refl
clear_behind [] (suc n) clear = refl
clear_behind (b ∷ bits) zero clear = rw (clear 0 (omega arith)) (clear_behind bits zero (λ k le. clear (suc k) (omega arith)))
clear_behind (b ∷ bits) (suc n) clear = clear_behind bits n (λ k le. clear (suc k) (omega (arith, le)))

pub clear_page : (image : TableImage) (cell n : ℕ) (bits : List Bool) → n ≡ length (cell_at image cell).rows → n ≤ PAGE_ROWS → ((k : ℕ) → n ≤ k → slice_index_or bits k false ≡ false)
    → any_true (drop (length (rows_of_page (cell_at image cell).rows 0)) bits) ≡ false
clear_page image cell n bits e few clear =
    clear_behind bits (length (rows_of_page (cell_at image cell).rows 0)) (λ k le. clear k (let f = length-take PAGE_ROWS (cell_at image cell).rows in omega (arith, e, few, le, f)))
