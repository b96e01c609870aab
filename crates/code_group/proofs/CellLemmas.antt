-- What a valid image says of its cells and their rows.
use Rattle.std.proofs.Common.{◌≡◌, ◌<◌, ◌≤◌, ◌==◌, ℕ, zero, suc, true, List, [], ◌∷◌, map, length, nat_lt, nat_le, slice_index_or, arith}
use Rattle.std.specs.List.{list_all, zip}
use Rattle.std.proofs.lemmas.Bool.{eqb-true, ltb-true, leb-true}
use Rattle.blink_lists.specs.Lists.{rises}
use Rattle.blink_lists.proofs.AllLemmas.{all_at}
use Rattle.blink_lists.proofs.GroupLemmas.{both}
use Rattle.cell_layout.specs.Image.{TableImage, CellImage, cell_at, rows_of}
use Rattle.cell_layout.specs.Layout.{cell_cmp}
use Rattle.cell_layout.specs.Valid.{is_cell, are_codes, is_row_count, is_rest_row, is_valid, are_keyed, most_cell_rows}
use Rattle.order_codes.specs.Dictionary.{Classes}
use Rattle.code_group.specs.CellLaws.{CellFacts, CellsHaveClasses}

pub valid-cell : (image : TableImage) (cell : ℕ) → is_valid image ≡ true → cell < length image.cells → is_cell image.columns (cell_at image cell) ≡ true
valid-cell image cell h lt =
    let a = both _ (are_keyed image.schema.key (rows_of image)) h in
    let b = both _ (nat_le (length image.rest) most_cell_rows) a.0 in
    let c = both _ (list_all (is_rest_row image) image.rest) b.0 in
    let d = both _ (rises cell_cmp (map (λ (cell : CellImage). cell.classes) image.cells)) c.0 in
    let e = both _ (list_all (is_cell image.columns) image.cells) d.0 in
    all_at (is_cell image.columns) image.cells cell (record { classes = []; rows = [] }) e.1 lt

class-there : (columns : List Classes) (classes : List ℕ) → list_all (λ p. nat_lt p.1 (length p.0)) (zip columns classes) ≡ true → length classes ≡ length columns
    → (k : ℕ) → k < length columns → slice_index_or classes k 0 < length (slice_index_or columns k [])
class-there [] classes h e k lt = absurd (omega (arith, lt))
class-there (c ∷ cs) [] h e k lt = absurd (omega (arith, e))
class-there (c ∷ cs) (n ∷ ns) h e zero lt = ltb-true n (length c) (both (nat_lt n (length c)) (list_all (λ p. nat_lt p.1 (length p.0)) (zip cs ns)) h).0
class-there (c ∷ cs) (n ∷ ns) h e (suc k) lt =
    class-there cs ns (both (nat_lt n (length c)) (list_all (λ p. nat_lt p.1 (length p.0)) (zip cs ns)) h).1 (omega (arith, e)) k (omega (arith, lt))

pub cell-facts : (columns : List Classes) (cell : CellImage) → is_cell columns cell ≡ true → CellFacts columns cell
cell-facts columns cell h =
    let a = both _ (list_all (are_codes columns cell.classes) cell.rows) h in
    let b = both _ (is_row_count cell.rows) a.0 in
    let c = both (length cell.classes == length columns) (list_all (λ p. nat_lt p.1 (length p.0)) (zip columns cell.classes)) b.0 in
    let d = both (nat_le 1 (length cell.rows)) (nat_le (length cell.rows) most_cell_rows) b.1 in
    let full = eqb-true (length cell.classes) (length columns) c.0 in
    record {
      classes = record { full = full; numbers = class-there columns cell.classes c.1 full };
      few = leb-true (length cell.rows) most_cell_rows d.1;
      codes = a.1;
    }

pub cells-have-classes : CellsHaveClasses
cells-have-classes image cell h lt = cell-facts image.columns (cell_at image cell) (valid-cell image cell h lt)
