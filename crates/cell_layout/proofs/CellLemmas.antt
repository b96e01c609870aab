-- The cells of coded rows.
use Rattle.std.proofs.Common.{◌≡◌, ℕ, Bool, true, false, not, ◌==◌, List, [], ◌∷◌, map, filter, length, refl, sym, ap, ◌∙◌, subst}
use Rattle.std.proofs.lemmas.List.{map-append}
use Rattle.std.specs.List.{list_all, list_any, flat_map}
use Rattle.std.proofs.lemmas.Cmp.{nat_list_cmp_total, eq_by_cmp_equiv}
use Rattle.std.proofs.lemmas.Map.Lookups.{exact_bytes}
use Rattle.blink_lists.specs.Lists.{in_order, once_each, are_distinct}
use Rattle.blink_lists.specs.Rearrangement.{Rearranged}
use Rattle.blink_lists.specs.Rearrangement.Rearranged.{followed}
use Rattle.blink_lists.proofs.RearrangementLemmas.{map-rearranged, behind}
use Rattle.blink_base.specs.Values.{Row}
use Rattle.order_codes.specs.Codes.{DecodesFound}
use Rattle.order_codes.specs.Dictionary.{Classes, are_classes}
use Rattle.blink_lists.proofs.OrderLemmas.{equal_is, rearranged-in_order}
use Rattle.cell_layout.specs.Image.{TableImage, CodedRow, is_coded, coded, decoded_row, cell_rows, rows_of}
use Rattle.cell_layout.specs.Layout.{cell_cmp, same_cell, cell_of, cells_of, placed}
use Rattle.blink_lists.proofs.AnyLemmas.{any-rearranged}
use Rattle.blink_lists.proofs.GroupLemmas.{all-imply, once_each-distinct, by_keys, covers_once, parted}
use Rattle.blink_lists.proofs.BoolLemmas.{all_both}
use Rattle.blink_lists.proofs.AllLemmas.{all-part, all-passing}
use Rattle.blink_lists.proofs.DistinctLemmas.{distinct-rearranged}
use Rattle.blink_lists.specs.Groups.{IsSame, with_key}
use Rattle.cell_layout.proofs.CodedRowLemmas.{is_whole, all_back}

pub same_is : (x y : List ℕ) → same_cell x y ≡ true → x ≡ y
same_is x y e = exact_bytes x y (equal_is (cell_cmp x y) e)

pub same_itself : (x : List ℕ) → same_cell x x ≡ true
same_itself x = (eq_by_cmp_equiv nat_list_cmp_total).refl x

pub same_back : (x y : List ℕ) → same_cell x y ≡ same_cell y x
same_back x y = (eq_by_cmp_equiv nat_list_cmp_total).symm x y

pub cells_same : IsSame same_cell
cells_same = record { one = same_is; itself = same_itself; back = same_back }

-- the class numbers of the cells
abbrev pub cell_keys : List CodedRow → List (List ℕ)
cell_keys rows = in_order cell_cmp (once_each same_cell (map (λ r. r.classes) rows))

distinct_cells : (rows : List CodedRow) → are_distinct same_cell (cell_keys rows) ≡ true
distinct_cells rows =
    let found = once_each same_cell (map (λ r. r.classes) rows) in
    sym (distinct-rearranged same_cell same_back (rearranged-in_order cell_cmp found)) ∙ once_each-distinct same_cell cells_same (map (λ r. r.classes) rows)

has_cells : (rows : List CodedRow) → list_all (λ r. list_any (λ k. same_cell k r.classes) (cell_keys rows)) rows ≡ true
has_cells rows =
    let found = once_each same_cell (map (λ r. r.classes) rows) in
    all-imply (λ r. list_any (λ k. same_cell k r.classes) found) (λ r. list_any (λ k. same_cell k r.classes) (cell_keys rows))
    (λ r h. sym (any-rearranged (λ k. same_cell k r.classes) (rearranged-in_order cell_cmp found)) ∙ h) rows (covers_once same_cell cells_same (λ r. r.classes) rows)

-- a row as its own class numbers and codes say
abbrev pub row_back : List Classes → CodedRow → Row
row_back columns r = decoded_row columns r.classes r.codes

-- a cell's rows, each by its own class numbers
cell_back : (columns : List Classes) (k : List ℕ) (rows : List CodedRow)
    → map (row_back columns) (with_key same_cell (λ r. r.classes) rows k) ≡ map (decoded_row columns k) (map (λ r. r.codes) (filter (λ r. same_cell k r.classes) rows))
cell_back columns k [] = refl
cell_back columns k (r ∷ rows) = by (same_cell k r.classes) refl (cell_back columns k rows)
  where
    by : (b : Bool) → same_cell k r.classes ≡ b → map (row_back columns) (with_key same_cell (λ q. q.classes) rows k) ≡ map (decoded_row columns k) (map (λ q. q.codes) (filter (λ q. same_cell k q.classes) rows))
        → map (row_back columns) (with_key same_cell (λ q. q.classes) (r ∷ rows) k) ≡ map (decoded_row columns k) (map (λ q. q.codes) (filter (λ q. same_cell k q.classes) (r ∷ rows)))
    by true e rest = rw (e, rest) (ap (λ z. decoded_row columns z r.codes ∷ map (decoded_row columns k) (map (λ q. q.codes) (filter (λ q. same_cell k q.classes) rows))) (sym (same_is k r.classes e)))
    by false e rest = rw (e, rest) refl

all_cells_back : (image : TableImage) (ks : List (List ℕ)) (rows : List CodedRow)
    → map (row_back image.columns) (flat_map (with_key same_cell (λ r. r.classes) rows) ks) ≡ flat_map (cell_rows image) (map (cell_of rows) ks)
all_cells_back image [] rows = refl
all_cells_back image (k ∷ ks) rows =
    map-append (row_back image.columns) (with_key same_cell (λ r. r.classes) rows k) (flat_map (with_key same_cell (λ r. r.classes) rows) ks)
    ∙ rw (cell_back image.columns k rows, all_cells_back image ks rows) refl

-- the cells stand for the rows that were coded
cells_rearranged : (image : TableImage) (rows : List CodedRow) → Rearranged (map (row_back image.columns) rows) (flat_map (cell_rows image) (cells_of rows))
cells_rearranged image rows =
    subst (λ l. Rearranged (map (row_back image.columns) rows) l) (all_cells_back image (cell_keys rows) rows)
    (map-rearranged (row_back image.columns) (by_keys same_cell cells_same (λ r. r.classes) (cell_keys rows) rows (has_cells rows) (distinct_cells rows)))

pub whole_rows : (columns : List Classes) (rows : List Row) → list_all (λ row. length row == length columns) rows ≡ true → list_all (is_whole columns) (filter (is_coded columns) rows) ≡ true
whole_rows columns rows long =
    all_both (λ row. length row == length columns) (is_coded columns) (filter (is_coded columns) rows) (all-part _ (is_coded columns) rows long) (all-passing (is_coded columns) rows)

-- rows placed by classes are these rows in another order
pub placed-rearranged : DecodesFound → (image : TableImage) (rows : List Row) → list_all are_classes image.columns ≡ true → list_all (λ row. length row == length image.columns) rows ≡ true
    → Rearranged rows (rows_of (placed image.schema image.columns rows))
placed-rearranged decodes image rows valid long =
    let columns = image.columns in
    let coded_part = filter (is_coded columns) rows in
    let rest = filter (λ row. not (is_coded columns row)) rows in
    let here = cells_rearranged (placed image.schema columns rows) (map (coded columns) coded_part) in
    let back = all_back decodes columns coded_part valid (whole_rows columns rows long) in
    followed (parted (is_coded columns) rows) (behind rest (subst (λ l. Rearranged l (flat_map (cell_rows (placed image.schema columns rows)) (cells_of (map (coded columns) coded_part)))) back here))
