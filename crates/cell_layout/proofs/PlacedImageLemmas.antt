-- Rows placed by valid classes are a valid image.
use Rattle.std.proofs.Common.{◌≡◌, ℕ, ◌≤◌, Bool, true, not, ◌&&◌, ◌==◌, List, [], ◌∷◌, map, filter, length, nat_le, slice_index_or, pos, Option, Some, None, refl, sym, ap, ◌∙◌, subst, arith, le_trans}
use Rattle.std.specs.List.{list_all, list_any, zip}
use Rattle.std.proofs.lemmas.Bool.{and_parts, and_from, le-leb, eqb-true, eq-eqb}
use Rattle.std.proofs.lemmas.Cmp.{nat_list_cmp_total, eq_by_cmp_equiv}
use Rattle.blink_base.specs.ValueOrder.{value_total}
use Rattle.blink_base.specs.declared.schema.Column.{Column}
use Rattle.std.proofs.lemmas.List.{length-map}
use Rattle.std.proofs.lemmas.List.Folds.{list_all-map}
use Rattle.blink_lists.specs.Lists.{once_each, rises}
use Rattle.blink_lists.specs.Groups.{IsSame}
use Rattle.blink_lists.specs.Rearrangement.{Rearranged}
use Rattle.blink_lists.proofs.ChoiceLemmas.{any-map}
use Rattle.blink_lists.proofs.RearrangementLemmas.{map-rearranged}
use Rattle.blink_base.specs.declared.schema.Schema.{Schema}
use Rattle.blink_base.specs.declared.value.Value.TheVariants.{Int}
use Rattle.blink_base.specs.Values.{Row, same_value}
use Rattle.blink_base.specs.RowFits.{fits, is_schema}
use Rattle.order_codes.specs.Codes.{DecodesFound}
use Rattle.order_codes.specs.Dictionary.{Classes, are_classes}
use Rattle.cell_layout.specs.Image.{TableImage, CodedRow, is_coded, coded, rows_of}
use Rattle.cell_layout.specs.Layout.{cell_cmp, same_cell, cell_of, cells_of, placed}
use Rattle.cell_layout.specs.Valid.{is_cell, are_codes, is_row_count, is_rest_row, is_valid, are_keyed, most_cell_rows, MayHold}
use Rattle.column_classes.specs.ColumnClasses.{are_divided, are_column_classes}
use Rattle.blink_lists.proofs.AllLemmas.{all-rearranged, all-part, all-passing, all-once_each}
use Rattle.blink_lists.proofs.GroupLemmas.{all-imply, once_each-distinct, covers-self}
use Rattle.blink_lists.proofs.BoolLemmas.{all_both}
use Rattle.blink_lists.proofs.AnyLemmas.{some_passing}
use Rattle.blink_lists.proofs.DistinctLemmas.{distinct-rearranged, length-filter-le}
use Rattle.blink_lists.proofs.OrderLemmas.{rearranged-in_order}
use Rattle.blink_lists.proofs.RisingLemmas.{rises-in_order}
use Rattle.cell_layout.proofs.CodedRowLemmas.{are_numbers, is_placed, all_placed}
use Rattle.cell_layout.proofs.CellLemmas.{same_is, same_itself, same_back, cells_same, cell_keys, whole_rows, placed-rearranged}

-- the class numbers of the cells pass what those of all rows pass
all_cell_keys : (p : List ℕ → Bool) (rows : List CodedRow) → list_all p (map (λ r. r.classes) rows) ≡ true → list_all p (cell_keys rows) ≡ true
all_cell_keys p rows all =
    sym (all-rearranged p (rearranged-in_order cell_cmp (once_each same_cell (map (λ r. r.classes) rows)))) ∙ all-once_each same_cell p (map (λ r. r.classes) rows) all

-- each cell has a row
pub filled_cells : (rows : List CodedRow) → list_all (λ k. list_any (λ r. same_cell k r.classes) rows) (cell_keys rows) ≡ true
filled_cells rows = all_cell_keys (λ k. list_any (λ r. same_cell k r.classes) rows) rows (list_all-map (λ k. list_any (λ r. same_cell k r.classes) rows) (λ (r : CodedRow). r.classes) rows ∙ own)
  where
    turned : IsSame (λ a b. same_cell b a)
    turned = record { one = λ a b e. sym (same_is b a e); itself = same_itself; back = λ a b. same_back b a }

    own : list_all (λ q. list_any (λ r. same_cell q.classes r.classes) rows) rows ≡ true
    own = all-imply (λ q. list_any (same_cell q.classes) (map (λ r. r.classes) rows)) (λ q. list_any (λ r. same_cell q.classes r.classes) rows)
        (λ q h. sym (any-map (same_cell q.classes) (λ (r : CodedRow). r.classes) rows) ∙ h) rows
        (covers-self (λ a b. same_cell b a) turned (λ (r : CodedRow). r.classes) rows)

-- the codes of a cell
cell_codes : (columns : List Classes) (k : List ℕ) (rows : List CodedRow) → list_all (is_placed columns) rows ≡ true → list_all (are_codes columns k) (map (λ r. r.codes) (filter (λ r. same_cell k r.classes) rows)) ≡ true
cell_codes columns k rows all =
    list_all-map (are_codes columns k) (λ (r : CodedRow). r.codes) (filter (λ r. same_cell k r.classes) rows)
    ∙ all-imply (λ r. is_placed columns r && same_cell k r.classes) (λ r. are_codes columns k r.codes)
    (λ r h. let parts = and_parts (is_placed columns r) (same_cell k r.classes) h in
    subst (λ z. are_codes columns z r.codes ≡ true) (sym (same_is k r.classes parts.1)) (and_parts (are_numbers columns r.classes) (are_codes columns r.classes r.codes) parts.0).1)
    (filter (λ r. same_cell k r.classes) rows)
    (all_both (is_placed columns) (λ r. same_cell k r.classes) (filter (λ r. same_cell k r.classes) rows) (all-part (is_placed columns) (λ r. same_cell k r.classes) rows all) (all-passing (λ r. same_cell k r.classes) rows))

cells_valid : (columns : List Classes) (rows : List CodedRow) → list_all (is_placed columns) rows ≡ true → length rows ≤ most_cell_rows → list_all (is_cell columns) (cells_of rows) ≡ true
cells_valid columns rows all few =
    list_all-map (is_cell columns) (cell_of rows) (cell_keys rows)
    ∙ all-imply (λ k. are_numbers columns k && list_any (λ r. same_cell k r.classes) rows) (λ k. is_cell columns (cell_of rows k)) each (cell_keys rows)
    (all_both (are_numbers columns) (λ k. list_any (λ r. same_cell k r.classes) rows) (cell_keys rows) numbers (filled_cells rows))
  where
    numbers : list_all (are_numbers columns) (cell_keys rows) ≡ true
    numbers = all_cell_keys (are_numbers columns) rows (list_all-map (are_numbers columns) (λ (r : CodedRow). r.classes) rows
        ∙ all-imply (is_placed columns) (λ r. are_numbers columns r.classes) (λ r h. (and_parts (are_numbers columns r.classes) (are_codes columns r.classes r.codes) h).0) rows all)

    each : (k : List ℕ) → (are_numbers columns k && list_any (λ r. same_cell k r.classes) rows) ≡ true → is_cell columns (cell_of rows k) ≡ true
    each k h =
        let parts = and_parts (are_numbers columns k) (list_any (λ r. same_cell k r.classes) rows) h in
        let part = filter (λ (r : CodedRow). same_cell k r.classes) rows in
        let long : length (map (λ (r : CodedRow). r.codes) part) ≡ length part = length-map part (λ (r : CodedRow). r.codes) in
        let low = length-filter-le (λ (r : CodedRow). same_cell k r.classes) rows in
        let count : is_row_count (map (λ r. r.codes) part) ≡ true =
        rw long (and_from (nat_le 1 (length part)) (nat_le (length part) most_cell_rows) (some_passing (λ r. same_cell k r.classes) rows parts.1) (le-leb _ _ (le_trans low few))) in
        and_from (are_numbers columns k && is_row_count (map (λ r. r.codes) part)) (list_all (are_codes columns k) (map (λ r. r.codes) part))
        (and_from (are_numbers columns k) (is_row_count (map (λ r. r.codes) part)) parts.0 count) (cell_codes columns k rows all)

keys_of_cells : (rows : List CodedRow) (ks : List (List ℕ)) → map (λ cell. cell.classes) (map (cell_of rows) ks) ≡ ks
keys_of_cells rows [] = refl
keys_of_cells rows (k ∷ ks) = ap (λ l. k ∷ l) (keys_of_cells rows ks)

-- cells stand in order
pub cells_rise : (rows : List CodedRow) → rises cell_cmp (map (λ cell. cell.classes) (cells_of rows)) ≡ true
cells_rise rows = ap (rises cell_cmp) (keys_of_cells rows (cell_keys rows)) ∙ rises-in_order cell_cmp nat_list_cmp_total (once_each same_cell (map (λ r. r.classes) rows)) (once_each-distinct same_cell cells_same (map (λ r. r.classes) rows))

-- each column's classes are classes
zip_classes : (schema : List Column) (columns : List Classes) → length columns ≡ length schema → list_all (λ p. are_column_classes p.0 p.1) (zip schema columns) ≡ true → list_all are_classes columns ≡ true
zip_classes [] [] long all = refl
zip_classes [] (classes ∷ columns) long all = absurd (omega arith)
zip_classes (column ∷ schema) [] long all = absurd (omega arith)
zip_classes (column ∷ schema) (classes ∷ columns) long all =
    let parts = and_parts (are_column_classes column classes) (list_all (λ p. are_column_classes p.0 p.1) (zip schema columns)) all in
    and_from (are_classes classes) (list_all are_classes columns) (and_parts (are_classes classes) _ parts.0).0 (zip_classes schema columns (omega arith) parts.1)

-- the values of the key stay distinct in another order
pub keyed-rearranged : (key : Option ℕ) (rows placed : List Row) → Rearranged rows placed → are_keyed key rows ≡ true → are_keyed key placed ≡ true
keyed-rearranged None rows placed r keyed = refl
keyed-rearranged (Some key) rows placed r keyed =
    sym (distinct-rearranged same_value (λ x y. (eq_by_cmp_equiv value_total).symm x y) (map-rearranged (λ row. slice_index_or row key (Int (pos 0))) r)) ∙ keyed

seven : (a b c d e f g : Bool) → a ≡ true → b ≡ true → c ≡ true → d ≡ true → e ≡ true → f ≡ true → g ≡ true → (a && b && c && d && e && f && g) ≡ true
seven a b c d e f g ta tb tc td te tf tg = rw (ta, tb, tc, td, te, tf, tg) refl

-- the parts of a valid image
pub record HasParts (image : TableImage) : Type 0 where
  pub allowed : is_schema image.schema ≡ true
  pub divided : are_divided image.schema image.columns ≡ true
  pub cells : list_all (is_cell image.columns) image.cells ≡ true
  pub rising : rises cell_cmp (map (λ cell. cell.classes) image.cells) ≡ true
  pub rest : list_all (is_rest_row image) image.rest ≡ true
  pub keyed : are_keyed image.schema.key (rows_of image) ≡ true

pub valid_parts : (image : TableImage) → is_valid image ≡ true → HasParts image
valid_parts image valid =
    let schema = is_schema image.schema in
    let divided = are_divided image.schema image.columns in
    let cells = list_all (is_cell image.columns) image.cells in
    let rising = rises cell_cmp (map (λ cell. cell.classes) image.cells) in
    let rest = list_all (is_rest_row image) image.rest in
    let few = nat_le (length image.rest) most_cell_rows in
    let seven = and_parts (schema && divided && cells && rising && rest && few) (are_keyed image.schema.key (rows_of image)) valid in
    let five = and_parts (schema && divided && cells && rising) rest (and_parts (schema && divided && cells && rising && rest) few seven.0).0 in
    let four = and_parts (schema && divided && cells) rising five.0 in
    let three = and_parts (schema && divided) cells four.0 in
    let two = and_parts schema divided three.0 in
    record { allowed = two.0; divided = two.1; cells = three.1; rising = four.1; rest = five.1; keyed = seven.1 }

-- classes that are valid for a schema: as many as its columns
pub divided_classes : (schema : Schema) (columns : List Classes) → are_divided schema columns ≡ true → (length columns ≡ length schema.columns) × (list_all are_classes columns ≡ true)
divided_classes schema columns divided =
    let parts = and_parts (length columns == length schema.columns && list_all (λ p. are_column_classes p.0 p.1) (zip schema.columns columns)) _ divided in
    let each = and_parts (length columns == length schema.columns) (list_all (λ p. are_column_classes p.0 p.1) (zip schema.columns columns)) parts.0 in
    let as_many = eqb-true (length columns) (length schema.columns) each.0 in
    (as_many, zip_classes schema.columns columns as_many each.1)

-- rows in valid classes are a valid image of these rows
pub placed_valid : DecodesFound → (schema : Schema) (columns : List Classes) (rows : List Row) → are_divided schema columns ≡ true → MayHold schema rows
    → (is_valid (placed schema columns rows) ≡ true) × Rearranged rows (rows_of (placed schema columns rows))
placed_valid decodes schema columns rows divided may =
    let valid = divided_classes schema columns divided in
    let as_many = valid.0 in
    let classes = valid.1 in
    let long : list_all (λ row. length row == length columns) rows ≡ true =
    all-imply (fits schema) (λ row. length row == length columns)
    (λ row h. eq-eqb (length row) (length columns) (eqb-true (length row) (length schema.columns) (and_parts (length row == length schema.columns) _ h).0 ∙ sym as_many)) rows may.fit in
    let image = placed schema columns rows in
    let coded_part = filter (is_coded columns) rows in
    let uncoded : Row → Bool = λ row. not (is_coded columns row) in
    let few = may.few in
    let few_coded = length-filter-le (is_coded columns) rows in
    let few_rest = length-filter-le uncoded rows in
    let as_coded = length-map coded_part (coded columns) in
    let moved = placed-rearranged decodes image rows classes long in (
      seven (is_schema schema) (are_divided schema columns) (list_all (is_cell columns) image.cells) (rises cell_cmp (map (λ cell. cell.classes) image.cells))
          (list_all (is_rest_row image) image.rest) (nat_le (length image.rest) most_cell_rows) (are_keyed schema.key (rows_of image))
          may.allowed divided
          (cells_valid columns (map (coded columns) coded_part) (all_placed decodes columns coded_part classes (whole_rows columns rows long)) (omega arith))
          (cells_rise (map (coded columns) coded_part))
          (all_both (fits schema) uncoded (filter uncoded rows) (all-part (fits schema) uncoded rows may.fit) (all-passing uncoded rows))
          (le-leb (length (filter uncoded rows)) most_cell_rows (omega arith))
          (keyed-rearranged schema.key rows (rows_of image) moved may.keyed),
      moved,
    )
