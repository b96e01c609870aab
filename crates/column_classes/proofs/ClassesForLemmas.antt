-- The classes that rows call for.
use Rattle.std.proofs.Common.{◌≡◌, ℕ, suc, pos, ◌+◌, ◌≤◌, Bool, true, false, ◌&&◌, ◌==◌, cond, List, [], ◌∷◌, map, filter, length, get_or, take, count_by, nat_le, nat_lt, refl, ap, ◌∙◌, subst, arith}
use Rattle.std.specs.List.{list_all, list_any, zip}
use Rattle.std.specs.Ordering.{nat_cmp}
use Rattle.std.proofs.lemmas.Bool.{and_parts, and_from, le-leb, eqb-true, eq-eqb}
use Rattle.std.proofs.lemmas.List.{length-map, length-take}
use Rattle.std.proofs.lemmas.List.Folds.{list_all-map}
use Rattle.std.proofs.lemmas.List.Sums.{sum_by-le-sum_by}
use Rattle.blink_lists.specs.Lists.{in_order, numbers_from, numbered, numbered_from}
use Rattle.blink_lists.proofs.RearrangementLemmas.{length-rearranged}
use Rattle.blink_base.specs.declared.value.Value.{Value}
use Rattle.blink_base.specs.declared.value.Value.TheVariants.{Int}
use Rattle.blink_base.specs.declared.schema.Column.{Column}
use Rattle.blink_base.specs.declared.schema.Schema.{Schema}
use Rattle.blink_base.specs.Values.{Row}
use Rattle.blink_base.specs.RowFits.{is_entry, fits}
use Rattle.blink_histogram.specs.Ranks.{Counted, ranked}
use Rattle.freq_partition.specs.Division.{chosen_columns, saving_cmp, saving_of}
use Rattle.blink_lists.specs.declared.limits.TheConstants.{MOST_DIVIDED, MOST_ROWS}
use Rattle.order_codes.specs.Dictionary.{Classes}
use Rattle.column_classes.specs.ColumnClasses.{column_values, in_pieces, classes_by, division_if, counts_of, divided_columns, classes_for, are_column_classes, are_divided}
use Rattle.blink_lists.proofs.NumberLemmas.{length-numbers, length-numbered, count_chosen}
use Rattle.blink_lists.proofs.GroupLemmas.{all-imply}
use Rattle.blink_lists.proofs.BoolLemmas.{all-swap}
use Rattle.blink_lists.proofs.OrderLemmas.{rearranged-in_order}
use Rattle.column_classes.proofs.ClassSizeLemmas.{one_if_not}
use Rattle.column_classes.proofs.ClassPieceLemmas.{length-in_pieces, class_of_piece}
use Rattle.column_classes.proofs.ColumnClassLemmas.{column_classes}
use Rattle.blink_lists.proofs.SumLemmas.{count-map}

-- the classes of a column, by its number
abbrev classes_at : List ℕ → ℕ × List Counted → Classes
classes_at chosen p = classes_by p.1 (division_if (list_any (λ k. k == p.0) chosen) (counts_of p.1)).sizes

-- the values of each column are of its kind
abbrev are_entries : List Row → ℕ × Column → Bool
are_entries rows p = list_all (is_entry p.1.kind) (column_values rows p.0)

length-column_values : (rows : List Row) (i : ℕ) → length (column_values rows i) ≡ length rows
length-column_values rows i = length-map rows (λ (row : Row). get_or row i (Int (pos 0)))

each_column : (chosen : List ℕ) (rows : List Row) (columns : List Column) (i : ℕ) → length rows ≤ MOST_ROWS → list_all (are_entries rows) (numbered_from i columns) ≡ true
    → list_all (λ p. are_column_classes p.0 p.1) (zip columns (map (classes_at chosen) (numbered_from i (map (λ column. ranked (column_values rows column)) (numbers_from i (length columns)))))) ≡ true
each_column chosen rows [] i few all = refl
each_column chosen rows (column ∷ columns) i few all =
    let parts = and_parts (are_entries rows (i, column)) (list_all (are_entries rows) (numbered_from (i + 1) columns)) all in
    let long = length-column_values rows i in
    and_from (are_column_classes column (classes_at chosen (i, ranked (column_values rows i)))) _
    (column_classes (list_any (λ k. k == i) chosen) column.kind (column_values rows i) parts.0 (omega arith)) (each_column chosen rows columns (i + 1) few parts.1)

-- the values of a row by their places
row_entries : (columns : List Column) (whole row : Row) (i : ℕ) (d : Value) → length row ≡ length columns → ((k : ℕ) → get_or whole (i + k) d ≡ get_or row k d)
    → list_all (λ p. is_entry p.0.kind p.1) (zip columns row) ≡ true → list_all (λ p. is_entry p.1.kind (get_or whole p.0 d)) (numbered_from i columns) ≡ true
row_entries [] whole row i d long same all = refl
row_entries (column ∷ columns) whole [] i d long same all = absurd (omega arith)
row_entries (column ∷ columns) whole (v ∷ row) i d long same all =
    let parts = and_parts (is_entry column.kind v) (list_all (λ p. is_entry p.0.kind p.1) (zip columns row)) all in
    let first : get_or whole i d ≡ v = subst (λ k. get_or whole k d ≡ v) (omega arith) (same 0) in
    and_from (is_entry column.kind (get_or whole i d)) _ (ap (is_entry column.kind) first ∙ parts.0)
    (row_entries columns whole row (i + 1) d (omega arith) (λ k. subst (λ j. get_or whole j d ≡ get_or row k d) (omega arith) (same (suc k))) parts.1)

fits_entries : (schema : Schema) (rows : List Row) → list_all (fits schema) rows ≡ true → list_all (are_entries rows) (numbered schema.columns) ≡ true
fits_entries schema rows all =
    let entry : Row → ℕ × Column → Bool = λ row p. is_entry p.1.kind (get_or row p.0 (Int (pos 0))) in
    all-imply (λ p. list_all (λ row. entry row p) rows) (are_entries rows)
    (λ p h. list_all-map (is_entry p.1.kind) (λ (row : Row). get_or row p.0 (Int (pos 0))) rows ∙ h) (numbered schema.columns)
    (all-swap entry rows (numbered schema.columns)
    ∙ (all-imply (fits schema) (λ row. list_all (entry row) (numbered schema.columns))
    (λ row h. let parts = and_parts (length row == length schema.columns) (list_all (λ p. is_entry p.0.kind p.1) (zip schema.columns row)) h in
    row_entries schema.columns row row 0 (Int (pos 0)) (eqb-true (length row) (length schema.columns) parts.0) (λ k. ap (λ j. get_or row j (Int (pos 0))) (omega arith)) parts.1) rows all))

few_chosen : (savings : List ℕ) → length (chosen_columns savings) ≤ MOST_DIVIDED
few_chosen savings = few (map (λ p. p.0) (in_order saving_cmp (filter (λ p. nat_lt 0 p.1) (numbered savings))))
  where
    few : (xs : List ℕ) → length (in_order nat_cmp (take MOST_DIVIDED xs)) ≤ MOST_DIVIDED
    few xs = let long = length-rearranged (rearranged-in_order nat_cmp (take MOST_DIVIDED xs)) in let short = length-take MOST_DIVIDED xs in omega arith

-- a column with several classes is a chosen one
divided_chosen : (chosen : List ℕ) (p : ℕ × List Counted) → cond (nat_lt 1 (length (classes_at chosen p))) 1 0 ≤ cond (list_any (λ k. k == p.0) chosen) 1 0
divided_chosen chosen p =
    let values = p.1 in
    let sizes_by : Bool → List ℕ = λ b. (division_if b (counts_of values)).sizes in
    let long : (b : Bool) → length (classes_by values (sizes_by b)) ≡ length (sizes_by b) = λ b. length-map (in_pieces (sizes_by b) values) class_of_piece ∙ length-in_pieces (sizes_by b) values in
    by (list_any (λ k. k == p.0) chosen) long
  where
    by : (b : Bool) → ((c : Bool) → length (classes_by p.1 (division_if c (counts_of p.1)).sizes) ≡ length (division_if c (counts_of p.1)).sizes)
        → cond (nat_lt 1 (length (classes_by p.1 (division_if b (counts_of p.1)).sizes))) 1 0 ≤ cond b 1 0
    by true long = at_most (nat_lt 1 (length (classes_by p.1 (division_if true (counts_of p.1)).sizes)))
      where
        at_most : (b : Bool) → cond b 1 0 ≤ 1
        at_most true = omega arith
        at_most false = omega arith
    by false long = let one : nat_lt 1 (length (classes_by p.1 (division_if false (counts_of p.1)).sizes)) ≡ false = ap (nat_lt 1) (long false) ∙ one_if_not (counts_of p.1) in rw one (omega arith)

few_divided : (columns : List (List Counted)) → count_by (λ classes. nat_lt 1 (length classes)) (divided_columns columns) ≤ MOST_DIVIDED
few_divided columns =
    let chosen = chosen_columns (map (λ values. saving_of (counts_of values)) columns) in
    let same = count-map (λ (classes : Classes). nat_lt 1 (length classes)) (classes_at chosen) (numbered columns) in
    let less = sum_by-le-sum_by (λ p. cond (nat_lt 1 (length (classes_at chosen p))) 1 0) (λ p. cond (list_any (λ k. k == p.0) chosen) 1 0) (numbered columns) (divided_chosen chosen) in
    let most = count_chosen chosen 0 columns in
    let three = few_chosen (map (λ values. saving_of (counts_of values)) columns) in
    omega arith

-- the classes that rows call for are valid
pub called_valid : (schema : Schema) (rows : List Row) → length rows ≤ MOST_ROWS → list_all (fits schema) rows ≡ true → are_divided schema (classes_for schema rows) ≡ true
called_valid schema rows few fit =
    let values = map (λ column. ranked (column_values rows column)) (numbers_from 0 (length schema.columns)) in
    let chosen = chosen_columns (map (λ v. saving_of (counts_of v)) values) in
    let columns = divided_columns values in
    let long : length columns ≡ length schema.columns =
    length-map (numbered values) (classes_at chosen) ∙ length-numbered 0 values ∙ length-numbers (λ column. ranked (column_values rows column)) 0 (length schema.columns) in
    and_from (length columns == length schema.columns && list_all (λ p. are_column_classes p.0 p.1) (zip schema.columns columns)) (nat_le (count_by (λ classes. nat_lt 1 (length classes)) columns) MOST_DIVIDED)
    (and_from (length columns == length schema.columns) (list_all (λ p. are_column_classes p.0 p.1) (zip schema.columns columns)) (eq-eqb _ _ long) (each_column chosen rows schema.columns 0 few (fits_entries schema rows fit)))
    (le-leb _ _ (few_divided values))
