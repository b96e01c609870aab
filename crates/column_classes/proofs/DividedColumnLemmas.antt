-- The classes that are made of ranked columns.
use Rattle.std.proofs.Common.{◌≡◌, ◌≤◌, ◌<◌, ℕ, suc, pos, subst, ◌+◌, ◌-◌, Bool, true, false, ◌==◌, List, [], ◌∷◌, ◌++◌, map, take, length, get_or, ◌&&◌, sum, replicate, slice_get, Option, Some, None, if◌then◌else◌, nat_le, Result, Ok, Err, IfOk, refl, sym, ap, ◌∙◌, arith}
use Rattle.std.specs.List.{list_all, list_any}
use Rattle.std.proofs.Math.Seq.{take-append_seam}
use Rattle.std.specs.declared.alloc.AllocError.{AllocError}
use Rattle.std.proofs.lemmas.Bool.{and_parts, eqb-true, leb-true}
use Rattle.std.proofs.lemmas.List.{get_or-map, length-map, take_more}
use Rattle.blink_lists.specs.Lists.{numbered}
use Rattle.blink_base.specs.declared.value.Value.{Value}
use Rattle.blink_base.specs.declared.value.Value.TheVariants.{Int}
use Rattle.blink_base.specs.Values.{Row}
use Rattle.blink_histogram.specs.Ranks.{Counted, counted, ranked}
use Rattle.freq_partition.specs.Division.{best_division, saving_of, chosen_columns, padded}
use Rattle.blink_lists.specs.declared.limits.TheConstants.{MOST_CLASSES, MOST_ROWS}
use Rattle.order_codes.specs.Dictionary.{Classes, are_classes}
use Rattle.column_classes.specs.ColumnClasses.{column_values, classes_by, classes_if, counts_of, division_if, divided_columns, ranked_columns}
use Rattle.column_classes.specs.ColumnStats.{IsRanked, IsRankedAt, IsColumn}
use Rattle.column_classes.specs.declared.column_stats.RankedColumn.{RankedColumn}
use Rattle.blink_lists.proofs.NumberLemmas.{numbers-at, length-numbers, numbered-at, length-numbered}
use Rattle.column_classes.proofs.ClassSizeLemmas.{sizes_if}
use Rattle.column_classes.proofs.ColumnClassLemmas.{divided_are_classes, length-ranked-le}

-- the columns that are divided
abbrev pub chosen_of : List (List Counted) → List ℕ
chosen_of columns = chosen_columns (map (λ values. saving_of (counts_of values)) columns)

pub length-divided : (rows : List Row) (n : ℕ) → length (divided_columns (ranked_columns rows n)) ≡ n
length-divided rows n =
    length-map (numbered (ranked_columns rows n)) (λ (p : ℕ × List Counted). classes_if (list_any (λ j. j == p.0) (chosen_of (ranked_columns rows n))) p.1)
    ∙ length-numbered 0 (ranked_columns rows n) ∙ length-numbers (λ column. ranked (column_values rows column)) 0 n

-- the classes of one of the columns
divided-at : (rows : List Row) (n k : ℕ) (d : Classes) → k < n
    → get_or (divided_columns (ranked_columns rows n)) k d ≡ classes_if (list_any (λ j. j == k) (chosen_of (ranked_columns rows n))) (ranked (column_values rows k))
divided-at rows n k d lt =
    let columns : List (List Counted) = ranked_columns rows n in
    let chosen = chosen_of (ranked_columns rows n) in
    let f : ℕ × List Counted → Classes = λ p. classes_if (list_any (λ j. j == p.0) (chosen_of (ranked_columns rows n))) p.1 in
    let long : length (ranked_columns rows n) ≡ n = length-numbers (λ column. ranked (column_values rows column)) 0 n in
    let within : k < length (ranked_columns rows n) = omega arith in
    let pairs = length-numbered 0 (ranked_columns rows n) in
    let zero_k : 0 + k ≡ k = omega arith in
    let value : get_or (ranked_columns rows n) k [] ≡ ranked (column_values rows k) = numbers-at (λ column. ranked (column_values rows column)) 0 n k [] lt ∙ ap (λ j. ranked (column_values rows j)) zero_k in
    get_or-map f (numbered (ranked_columns rows n)) k (0, []) d (omega arith)
    ∙ ap f (numbered-at 0 (ranked_columns rows n) k [] within ∙ (λ i. (zero_k i, value i)))

-- the columns that are divided, as calls say it
pub chosen_is : (rows : List Row) (n count : ℕ) (savings columns : List ℕ) → savings ≡ map (λ values. saving_of (counts_of values)) (ranked_columns rows n) → count ≡ length (chosen_columns savings) → columns ≡ padded 3 (chosen_columns savings)
    → take count columns ≡ chosen_of (ranked_columns rows n)
chosen_is rows n count savings columns is long padded_columns =
    (λ i. take (long i) (padded_columns i)) ∙ take-append_seam (chosen_columns savings) (replicate (3 - length (chosen_columns savings)) 0) ∙ ap chosen_columns is

pub length-savings : (rows : List Row) (n : ℕ) → length (map (λ values. saving_of (counts_of values)) (ranked_columns rows n)) ≡ n
length-savings rows n = length-map (ranked_columns rows n) (λ values. saving_of (counts_of values)) ∙ length-numbers (λ column. ranked (column_values rows column)) 0 n

-- one more dictionary
pub divided_more : (rows : List Row) (n k : ℕ) (divided : Bool) (dict : Classes) (so_far more : List Classes) → k < n
    → divided ≡ list_any (λ j. j == k) (chosen_of (ranked_columns rows n)) → dict ≡ classes_if divided (ranked (column_values rows k))
    → so_far ≡ take k (divided_columns (ranked_columns rows n)) → more ≡ so_far ++ dict ∷ [] → more ≡ take (k + 1) (divided_columns (ranked_columns rows n))
divided_more rows n k divided dict so_far more lt is here front pushed =
    let long = length-divided rows n in
    let value : get_or (divided_columns (ranked_columns rows n)) k [] ≡ dict = divided-at rows n k [] lt ∙ sym (here ∙ ap (λ b. classes_if b (ranked (column_values rows k))) is) in
    pushed ∙ ap (λ l. l ++ dict ∷ []) front ∙ ap (λ x. take k (divided_columns (ranked_columns rows n)) ++ x ∷ []) (sym value)
    ∙ sym (take_more (divided_columns (ranked_columns rows n)) k [] (omega arith))

-- the sizes of its classes, as calls say it
numbers-long : (it : RankedColumn) (values : List Counted) → IsRanked values it → length it.numbers ≡ length values
numbers-long it values is = sym (length-map it.numbers (slice_get (counted it.column))) ∙ ap length is.found ∙ length-map values (λ (c : Counted). Some c)

counts-long : (values : List Counted) → length (counts_of values) ≡ length values
counts-long values = length-map values (λ (c : Counted). c.1)

pub sizes_best : (it : RankedColumn) (values : List Counted) → IsRanked values it → take it.cut.count it.cut.sizes ≡ (division_if true (counts_of values)).sizes
sizes_best it values is =
    let sizes = (best_division (counts_of values)).sizes in
    (λ i. take (is.cut_count i) (is.cut_sizes i)) ∙ take-append_seam (best_division (counts_of values)).sizes (replicate (4 - length (best_division (counts_of values)).sizes) 0)

pub sizes_none : (it : RankedColumn) (values : List Counted) → IsRanked values it → length it.numbers ≡ 0 → [] ≡ (division_if false (counts_of values)).sizes
sizes_none it values is none = by values (sym (numbers-long it values is) ∙ none)
  where
    by : (values : List Counted) → length values ≡ 0 → [] ≡ (division_if false (counts_of values)).sizes
    by [] e = refl
    by (v ∷ values) e = absurd (omega arith)

pub sizes_one : (it : RankedColumn) (values : List Counted) → IsRanked values it → 0 < length it.numbers → length it.numbers ∷ [] ≡ (division_if false (counts_of values)).sizes
sizes_one it values is some =
    let long = numbers-long it values is in
    ap (λ n. n ∷ []) (long ∙ sym (counts-long values)) ∙ by values (omega arith)
  where
    by : (values : List Counted) → 0 < length values → length (counts_of values) ∷ [] ≡ (division_if false (counts_of values)).sizes
    by [] lt = absurd (omega arith)
    by (v ∷ values) lt = refl

-- there are at most four, and not too many values
pub few_sizes : (it : RankedColumn) (values : List Counted) → IsRanked values it → it.cut.count ≤ 4
few_sizes it values is =
    let sizes = (best_division (counts_of values)).sizes in
    let all = and_parts (nat_le (length sizes) MOST_CLASSES && list_all (nat_le 1) sizes) (sum sizes == length (counts_of values)) (sizes_if true (counts_of values)) in
    let few = leb-true (length sizes) MOST_CLASSES (and_parts (nat_le (length sizes) MOST_CLASSES) (list_all (nat_le 1) sizes) all.0).0 in
    let same = is.cut_count in
    omega arith

pub numbers_few : (it : RankedColumn) → IsColumn it → length it.numbers ≤ MOST_ROWS
numbers_few it has =
    let long = numbers-long it (ranked has.0) has.2 in
    let few = length-ranked-le has.0 in
    let most = has.1 in
    omega arith

-- they take no more than all values
pub sizes_within : (it : RankedColumn) (values : List Counted) (divided : Bool) (sizes : List ℕ) → IsRanked values it → sizes ≡ (division_if divided (counts_of values)).sizes → sum sizes ≤ length it.numbers
sizes_within it values divided sizes is same =
    let d = (division_if divided (counts_of values)).sizes in
    let all = and_parts (nat_le (length d) MOST_CLASSES && list_all (nat_le 1) d) (sum d == length (counts_of values)) (sizes_if divided (counts_of values)) in
    let total : sum sizes ≡ length (counts_of values) = ap sum same ∙ eqb-true (sum d) (length (counts_of values)) all.1 in
    let long = numbers-long it values is in
    let counts = counts-long values in
    omega arith

-- the classes, as calls say it
pub by_sizes : (r : Result Classes AllocError) (it : RankedColumn) (numbers sizes : List ℕ) (divided : Bool) → numbers ≡ it.numbers
    → ((values : List Counted) → IsRanked values it → sizes ≡ (division_if divided (counts_of values)).sizes)
    → IfOk r (λ classes. (values : List Counted) → map (slice_get (counted it.column)) numbers ≡ map Some values → classes ≡ classes_by values sizes)
    → IfOk r (λ classes. (column : List Value) → IsRanked (ranked column) it → classes ≡ classes_if divided (ranked column))
by_sizes (Ok classes) it numbers sizes divided same of got = λ column is. got (ranked column) (ap (map (slice_get (counted it.column))) same ∙ is.found) ∙ ap (classes_by (ranked column)) (of (ranked column) is)
by_sizes (Err e) it numbers sizes divided same of got = tt

-- classes that are so made are classes
pub made_classes : (it : RankedColumn) (divided : Bool) (classes : Classes) → IsColumn it → ((column : List Value) → IsRanked (ranked column) it → classes ≡ classes_if divided (ranked column)) → are_classes classes ≡ true
made_classes it divided classes has made = ap are_classes (made has.0 has.2) ∙ divided_are_classes divided has.0 has.1

pub made_dict : {D : Type 0} (classes : D) (good : Bool) (o : Option D) → o ≡ (if good then Some classes else None) → good ≡ true → o ≡ None → ⊥
made_dict classes good o is holds gone = none (sym (is ∙ ap (λ b. if b then Some classes else None) holds) ∙ gone)
  where
    none : Some classes ≡ None → ⊥
    none e = cc

pub length-column : (rows : List Row) (column : ℕ) → length (column_values rows column) ≡ length rows
length-column rows column = length-map rows (λ row. get_or row column (Int (pos 0)))

-- the first of the columns that are left, and those behind it
pub first_ranked : (rows : List Row) (n : ℕ) (left rest : List RankedColumn) (it : RankedColumn) → left ≡ it ∷ rest
    → ((k : ℕ) (d : RankedColumn) → k < length left → IsRankedAt rows (n + k) (get_or left k d)) → IsRankedAt rows n it
first_ranked rows n left rest it steps each =
    let long = ap length steps in
    let start : n + 0 ≡ n = omega arith in
    subst (λ j. IsRankedAt rows j it) start (subst (λ l. IsRankedAt rows (n + 0) (get_or l 0 it)) steps (each 0 it (omega arith)))

pub rest_ranked : (rows : List Row) (n : ℕ) (left rest : List RankedColumn) (it : RankedColumn) → left ≡ it ∷ rest
    → ((k : ℕ) (d : RankedColumn) → k < length left → IsRankedAt rows (n + k) (get_or left k d))
    → (k : ℕ) (d : RankedColumn) → k < length rest → IsRankedAt rows ((n + 1) + k) (get_or rest k d)
rest_ranked rows n left rest it steps each k d lt =
    let long = ap length steps in
    let next : n + suc k ≡ (n + 1) + k = omega arith in
    subst (λ j. IsRankedAt rows j (get_or rest k d)) next (subst (λ l. IsRankedAt rows (n + suc k) (get_or l (suc k) d)) steps (each (suc k) d (omega arith)))
