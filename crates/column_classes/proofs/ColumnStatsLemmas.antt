-- One more row that is numbered, and one more column that is ranked.
use Rattle.std.proofs.Common.{◌≡◌, ◌≢◌, ◌≤◌, ◌<◌, pos, ℕ, zero, suc, ◌+◌, map, refl, List, [], ◌∷◌, ◌++◌, length, take, get_or, ap, sym, subst, ◌∙◌, arith, inl, inr, ◌⊎◌, append_assoc}
use Rattle.std.proofs.Math.Seq.{get_or-append_seam, take-append_seam}
use Rattle.std.proofs.lemmas.Bool.{cases_lt}
use Rattle.std.proofs.Math.ListN.{set, length-set}
use Rattle.std.proofs.lemmas.List.{get_or_append_left, get_or_default, get_or-set_other, get_or-set_same, length-append, map-append, take_more}
use Rattle.blink_lists.specs.Lists.{numbers_from}
use Rattle.freq_partition.specs.Division.{saving_of}
use Rattle.column_classes.specs.ColumnClasses.{counts_of, column_values}
use Rattle.blink_base.specs.Values.{Row}
use Rattle.blink_histogram.specs.Ranks.{ranked}
use Rattle.blink_base.specs.declared.value.Value.{Value}
use Rattle.blink_base.specs.declared.value.Value.TheVariants.{Int}
use Rattle.column_classes.specs.declared.column_stats.RankedColumn.{RankedColumn}
use Rattle.column_classes.specs.ColumnStats.{IsRanked, IsRankedAt, AreRanked, AreColumns, AreColumnsTo}

-- one more column of no rows
pub columns_none : (n : ℕ) (columns more : List (List Value)) (it : List Value) → AreColumns [] n columns → it ≡ [] → more ≡ columns ++ it ∷ [] → AreColumns [] (n + 1) more
columns_none n columns more it before none pushed = subst (AreColumns [] (n + 1)) (sym pushed) (record {
  count = length-append columns (it ∷ []) ∙ ap (λ m. m + 1) before.count;
  each = λ k d lt. by k d (cases_lt k n) lt;
})
  where
    by : (k : ℕ) (d : List Value) → (k < n) ⊎ (n ≤ k) → k < n + 1 → get_or (columns ++ it ∷ []) k d ≡ column_values [] k
    by k d (inl less) lt =
        let count = before.count in
        get_or_append_left columns (it ∷ []) d k (omega arith) ∙ before.each k d less
    by k d (inr more) lt =
        let count = before.count in
        let same : k ≡ length columns = omega arith in
        ap (λ j. get_or (columns ++ it ∷ []) j d) same ∙ get_or-append_seam columns it [] d ∙ none

-- one more value of a row is put
pub columns_to_more : (column : ℕ) (before : List Row) (row : Row) (columns : List (List Value)) (more it : List Value) (value : Value) → column < length columns → column < length row → AreColumnsTo column before row columns
    → value ≡ get_or row column value → more ≡ get_or columns column it ++ value ∷ [] → AreColumnsTo (column + 1) before row (set columns column more)
columns_to_more column before row columns more it value within long are at grown = record {
  first = λ k d lt. by k d (cases_lt k column) lt;
  others = λ k d le lt.
      let other : k ≢ column = omega arith in
      let kept = length-set columns column more in
      get_or-set_other columns column k more d other ∙ are.others k d (omega arith) (omega arith);
}
  where
    at_row : value ≡ get_or row column (Int (pos 0))
    at_row = at ∙ get_or_default row column value (Int (pos 0)) long

    is : more ≡ column_values (before ++ row ∷ []) column
    is = grown ∙ ap (λ l. l ++ value ∷ []) (are.others column it (omega arith) within) ∙ ap (λ v. column_values before column ++ v ∷ []) at_row
        ∙ sym (map-append (λ (r : Row). get_or r column (Int (pos 0))) before (row ∷ []))

    by : (k : ℕ) (d : List Value) → (k < column) ⊎ (column ≤ k) → k < column + 1 → get_or (set columns column more) k d ≡ column_values (before ++ row ∷ []) k
    by k d (inl less) lt =
        let other : k ≢ column = omega arith in
        get_or-set_other columns column k more d other ∙ are.first k d less
    by k d (inr some) lt =
        let same : column ≡ k = omega arith in
        subst (λ j. get_or (set columns column more) j d ≡ column_values (before ++ row ∷ []) j) same (get_or-set_same columns column more d within ∙ is)

-- once each value of a row is put, the row is
pub columns_row : (column n : ℕ) (before : List Row) (row : Row) (columns : List (List Value)) → AreColumnsTo column before row columns → length columns ≡ n → n ≤ column → AreColumns (before ++ row ∷ []) n columns
columns_row column n before row columns are long all = record { count = long; each = λ k d lt. are.first k d (omega arith) }

-- one more of the rows is put
pub columns_more : (before rows : List Row) (k n m : ℕ) (row item : Row) (columns : List (List Value)) → k < length rows → item ≡ get_or rows k item → row ≡ item → m ≡ n
    → AreColumns ((before ++ take k rows) ++ row ∷ []) m columns → AreColumns (before ++ take (k + 1) rows) n columns
columns_more before rows k n m row item columns lt is same long are =
    subst (λ l. AreColumns l n columns) (append_assoc before (take k rows) (row ∷ []) ∙ ap (λ l. before ++ l) (ap (λ r. take k rows ++ r ∷ []) (same ∙ is) ∙ sym (take_more rows k item lt)))
    (subst (λ j. AreColumns ((before ++ take k rows) ++ row ∷ []) j columns) long are)

-- what was written through a slice of a whole vector
pub all_written : {X : Type 0} (n : ℕ) (xs behind : List X) → length xs ≡ n → take n (xs ++ behind) ≡ xs
all_written n xs behind long = ap (λ m. take m (xs ++ behind)) (sym long) ∙ take-append_seam xs behind

columns_same : (rows : List Row) (n : ℕ) (columns same : List (List Value)) → same ≡ columns → AreColumns rows n columns → AreColumns rows (length same) same
columns_same rows n columns same e are = subst (λ l. AreColumns rows (length l) l) (sym e) (subst (λ m. AreColumns rows m columns) (sym are.count) are)

-- the columns of a vector, after rows were put through a slice of it
pub columns_seen : (before rows : List Row) (n long : ℕ) (columns slice written behind after : List (List Value)) → AreColumns before n columns → slice ≡ columns → length slice ≡ long → length written ≡ length slice
    → after ≡ take long (written ++ behind) → (AreColumns before (length slice) slice → AreColumns rows (length slice) written) → AreColumns rows (length after) after
columns_seen before rows n long columns slice written behind after are same count kept is numbered =
    columns_same rows (length slice) written after (is ∙ all_written long written behind (kept ∙ count)) (numbered (columns_same before n columns slice same are))

-- a column of rows, ranked
pub ranked_column : (rows : List Row) (n : ℕ) (column : List Value) (it : RankedColumn) → column ≡ column_values rows n → IsRanked (ranked column) it → it.column ≡ column → IsRankedAt rows n it
ranked_column rows n column it is here same = record { values = same ∙ is; ranked = subst (λ l. IsRanked (ranked l) it) is here }

-- the first of the columns that are left, and those behind it
pub first_column : (rows : List Row) (n : ℕ) (left rest : List (List Value)) (it : List Value) → left ≡ it ∷ rest
    → ((k : ℕ) (d : List Value) → k < length left → get_or left k d ≡ column_values rows (n + k)) → it ≡ column_values rows n
first_column rows n left rest it steps each =
    let long = ap length steps in
    let start : n + 0 ≡ n = omega arith in
    sym (ap (λ l. get_or l 0 it) steps) ∙ each 0 it (omega arith) ∙ ap (column_values rows) start

pub rest_columns : (rows : List Row) (n : ℕ) (left rest : List (List Value)) (it : List Value) → left ≡ it ∷ rest
    → ((k : ℕ) (d : List Value) → k < length left → get_or left k d ≡ column_values rows (n + k))
    → (k : ℕ) (d : List Value) → k < length rest → get_or rest k d ≡ column_values rows ((n + 1) + k)
rest_columns rows n left rest it steps each k d lt =
    let long = ap length steps in
    let next : n + suc k ≡ (n + 1) + k = omega arith in
    sym (ap (λ l. get_or l (suc k) d) steps) ∙ each (suc k) d (omega arith) ∙ ap (column_values rows) next

pub ranked_more : (rows : List Row) (n : ℕ) (all more : List RankedColumn) (it : RankedColumn) → AreRanked rows n all → IsRankedAt rows n it → more ≡ all ++ it ∷ [] → AreRanked rows (n + 1) more
ranked_more rows n all more it before here pushed = subst (AreRanked rows (n + 1)) (sym pushed) (record {
  count = length-append all (it ∷ []) ∙ ap (λ m. m + 1) before.count;
  each = λ k d lt. by k d (cases_lt k n) lt;
})
  where
    by : (k : ℕ) (d : RankedColumn) → (k < n) ⊎ (n ≤ k) → k < n + 1 → IsRankedAt rows k (get_or (all ++ it ∷ []) k d)
    by k d (inl less) lt =
        let count = before.count in
        subst (IsRankedAt rows k) (sym (get_or_append_left all (it ∷ []) d k (omega arith))) (before.each k d less)
    by k d (inr more) lt =
        let count = before.count in
        let same : k ≡ length all = omega arith in
        let at_n : n ≡ k = omega arith in
        subst (λ j. IsRankedAt rows j (get_or (all ++ it ∷ []) k d)) at_n
        (subst (IsRankedAt rows n) (sym (ap (λ j. get_or (all ++ it ∷ []) j d) same ∙ get_or-append_seam all it [] d)) here)

-- what each column saves, element by element
savings_from : (rows : List Row) (a n : ℕ) (all : List RankedColumn) → length all ≡ n → ((k : ℕ) (d : RankedColumn) → k < n → IsRankedAt rows (a + k) (get_or all k d))
    → map (λ (it : RankedColumn). it.saving) all ≡ map (λ values. saving_of (counts_of values)) (map (λ column. ranked (column_values rows column)) (numbers_from a n))
savings_from rows a zero [] e each = refl
savings_from rows a (suc n) [] e each = absurd (omega arith)
savings_from rows a zero (it ∷ all) e each = absurd (omega arith)
savings_from rows a (suc n) (it ∷ all) e each =
    let start : a + 0 ≡ a = omega arith in
    let head : it.saving ≡ saving_of (counts_of (ranked (column_values rows a))) = (each 0 it (omega arith)).ranked.saved ∙ ap (λ j. saving_of (counts_of (ranked (column_values rows j)))) start in
    let tail = savings_from rows (a + 1) n all (omega arith) (λ k d lt.
    let next : a + suc k ≡ (a + 1) + k = omega arith in
    subst (λ j. IsRankedAt rows j (get_or all k d)) next (each (suc k) d (omega arith))) in
    λ i. head i ∷ tail i

pub savings_ranked : (rows : List Row) (n : ℕ) (all : List RankedColumn) → AreRanked rows n all
    → map (λ (it : RankedColumn). it.saving) all ≡ map (λ values. saving_of (counts_of values)) (map (λ column. ranked (column_values rows column)) (numbers_from 0 n))
savings_ranked rows n all are = savings_from rows 0 n all are.count (λ k d lt.
    let same : k ≡ 0 + k = omega arith in
    subst (λ j. IsRankedAt rows j (get_or all k d)) same (are.each k d lt))
