-- The classes that a column's values call for.
use Rattle.std.proofs.Common.{◌≡◌, ℕ, ◌≤◌, Bool, true, ◌&&◌, ◌==◌, List, [], ◌∷◌, map, length, sum, nat_le, refl, sym, ap, ◌∙◌, subst, arith}
use Rattle.std.specs.List.{list_all, list_any}
use Rattle.std.specs.Map.{keys_of}
use Rattle.blink_lists.proofs.AnyLemmas.{any-rearranged}
use Rattle.std.proofs.lemmas.Bool.{and_parts, and_from, eqb-true}
use Rattle.std.proofs.lemmas.Cmp.{eq_by_cmp_equiv}
use Rattle.std.proofs.lemmas.List.{length-map}
use Rattle.blink_lists.specs.Lists.{are_distinct, in_order, joined}
use Rattle.blink_lists.specs.Rearrangement.{Rearranged}
use Rattle.blink_lists.proofs.RearrangementLemmas.{map-rearranged, length-rearranged}
use Rattle.blink_base.specs.declared.value.Value.{Value}
use Rattle.blink_base.specs.declared.value.Kind.{Kind}
use Rattle.blink_base.specs.Values.{value_cmp, same_value}
use Rattle.blink_base.specs.ValueOrder.{value_total, value_same}
use Rattle.blink_lists.specs.Groups.{IsSame}
use Rattle.blink_base.specs.RowFits.{is_entry}
use Rattle.blink_histogram.specs.Ranks.{Counted, distinct_values, count_of, counted, rank_cmp, ranked}
use Rattle.order_codes.specs.Dictionary.{is_class, are_classes}
use Rattle.blink_lists.specs.declared.limits.TheConstants.{MOST_ROWS}
use Rattle.column_classes.specs.ColumnClasses.{in_pieces, classes_by, classes_if, division_if, counts_of}
use Rattle.blink_lists.proofs.AllLemmas.{all-rearranged, all-once_each}
use Rattle.blink_lists.proofs.GroupLemmas.{once_each-distinct}
use Rattle.blink_lists.proofs.DistinctLemmas.{distinct-rearranged, length-once_each-le}
use Rattle.blink_lists.proofs.OrderLemmas.{equal_is, rearranged-in_order}
use Rattle.column_classes.proofs.ClassSizeLemmas.{sizes_if}
use Rattle.column_classes.proofs.ClassPieceLemmas.{length-in_pieces, joined-in_pieces, all_pieces, class_of_piece, pieces-joined, all_classes_of}

firsts : {X : Type 0} (f : X → ℕ) (xs : List X) → map (λ (c : X × ℕ). c.0) (map (λ x. (x, f x)) xs) ≡ xs
firsts f [] = refl
firsts f (x ∷ xs) = ap (λ l. x ∷ l) (firsts f xs)

-- ranks have the distinct values
ranked_values : (column : List Value) → Rearranged (distinct_values column) (map (λ c. c.0) (ranked column))
ranked_values column =
    subst (λ l. Rearranged l (map (λ (c : Counted). c.0) (ranked column))) (firsts (count_of column) (distinct_values column)) (map-rearranged (λ (c : Counted). c.0) (rearranged-in_order rank_cmp (counted column)))

values_same : IsSame same_value
values_same = record { one = λ x y e. value_same x y (equal_is (value_cmp x y) e); itself = (eq_by_cmp_equiv value_total).refl; back = (eq_by_cmp_equiv value_total).symm }

ranked_apart : (column : List Value) → are_distinct same_value (map (λ c. c.0) (ranked column)) ≡ true
ranked_apart column = sym (distinct-rearranged same_value values_same.back (ranked_values column)) ∙ once_each-distinct same_value values_same column

pub length-ranked-le : (column : List Value) → length (ranked column) ≤ length column
length-ranked-le column =
    let low = length-once_each-le same_value column in
    let one = length-rearranged (ranked_values column) in
    let two = length-map (ranked column) (λ (c : Counted). c.0) in
    omega arith

-- the sizes of the classes, and their pieces
record HasPieces (column : List Value) (sizes : List ℕ) : Type 0 where
  few : nat_le (length sizes) 4 ≡ true
  each : list_all (nat_le 1) sizes ≡ true
  all : sum sizes ≡ length (ranked column)

has_pieces : (chosen : Bool) (column : List Value) → HasPieces column (division_if chosen (counts_of (ranked column))).sizes
has_pieces chosen column =
    let counts = counts_of (ranked column) in
    let sizes = (division_if chosen counts).sizes in
    let good = and_parts (nat_le (length sizes) 4 && list_all (nat_le 1) sizes) (sum sizes == length counts) (sizes_if chosen counts) in
    let front = and_parts (nat_le (length sizes) 4) (list_all (nat_le 1) sizes) good.0 in
    record {
      few = front.0;
      each = front.1;
      all = eqb-true (sum sizes) (length counts) good.1 ∙ length-map (ranked column) (λ (c : Counted). c.1);
    }

by_pieces : (column : List Value) (sizes : List ℕ) → HasPieces column sizes → length column ≤ MOST_ROWS → are_classes (classes_by (ranked column) sizes) ≡ true
by_pieces column sizes has few =
    let values = ranked column in
    let pieces = in_pieces sizes values in
    let classes = map class_of_piece pieces in
    let whole = joined-in_pieces sizes values has.all in
    let apart : are_distinct same_value (map (λ (c : Counted). c.0) (joined pieces)) ≡ true = ap (λ l. are_distinct same_value (map (λ (c : Counted). c.0) l)) whole ∙ ranked_apart column in
    let low = length-ranked-le column in
    let long : length classes ≡ length sizes = length-map pieces class_of_piece ∙ length-in_pieces sizes values in
    and_from (nat_le (length classes) 4 && list_all is_class classes) (are_distinct same_value (joined classes))
    (and_from (nat_le (length classes) 4) (list_all is_class classes) (ap (λ n. nat_le n 4) long ∙ has.few) (all_classes_of pieces (all_pieces MOST_ROWS sizes values (omega arith) has.each has.all) apart))
    (sym (distinct-rearranged same_value values_same.back (pieces-joined pieces)) ∙ apart)

entries : (kind : Kind) (column : List Value) (sizes : List ℕ) → HasPieces column sizes → list_all (is_entry kind) column ≡ true → list_all (is_entry kind) (joined (classes_by (ranked column) sizes)) ≡ true
entries kind column sizes has all =
    let pieces = in_pieces sizes (ranked column) in
    sym (all-rearranged (is_entry kind) (pieces-joined pieces))
    ∙ ap (λ l. list_all (is_entry kind) (map (λ (c : Counted). c.0) l)) (joined-in_pieces sizes (ranked column) has.all)
    ∙ sym (all-rearranged (is_entry kind) (ranked_values column))
    ∙ all-once_each same_value (is_entry kind) column all

-- the classes of a column's values are classes
pub divided_are_classes : (chosen : Bool) (column : List Value) → length column ≤ MOST_ROWS → are_classes (classes_by (ranked column) (division_if chosen (counts_of (ranked column))).sizes) ≡ true
divided_are_classes chosen column few = by_pieces column (division_if chosen (counts_of (ranked column))).sizes (has_pieces chosen column) few

-- the classes of a column's values are valid
pub column_classes : (chosen : Bool) (kind : Kind) (column : List Value) → list_all (is_entry kind) column ≡ true → length column ≤ MOST_ROWS
    → (are_classes (classes_by (ranked column) (division_if chosen (counts_of (ranked column))).sizes) && list_all (is_entry kind) (joined (classes_by (ranked column) (division_if chosen (counts_of (ranked column))).sizes))) ≡ true
column_classes chosen kind column all few =
    let sizes = (division_if chosen (counts_of (ranked column))).sizes in
    let has = has_pieces chosen column in
    and_from (are_classes (classes_by (ranked column) sizes)) (list_all (is_entry kind) (joined (classes_by (ranked column) sizes))) (by_pieces column sizes has few) (entries kind column sizes has all)

-- the classes of a column have the values of its interner, and no others
pub classes_have_values : (chosen : Bool) (column : List Value) (counts : List Counted) (v : Value) → ranked column ≡ in_order rank_cmp counts
    → list_any (same_value v) (joined (classes_if chosen (ranked column))) ≡ list_any (same_value v) (keys_of counts)
classes_have_values chosen column counts v ordered =
    let sizes = (division_if chosen (counts_of (ranked column))).sizes in
    let pieces = in_pieces sizes (ranked column) in
    let p = same_value v in
    sym (any-rearranged p (pieces-joined pieces))
    ∙ ap (λ l. list_any p (map (λ (c : Counted). c.0) l)) (joined-in_pieces sizes (ranked column) (has_pieces chosen column).all ∙ ordered)
    ∙ sym (any-rearranged p (map-rearranged (λ (c : Counted). c.0) (rearranged-in_order rank_cmp counts)))
