-- The greatest savings among the columns from one on.
use Rattle.std.proofs.Common.{ℕ, ◌+◌, ◌≤◌, ◌<◌, ◌≡◌, true, false, nat_lt, List, [], take, drop, length, get_or, filter, map, refl, sym, ap, ◌∙◌, arith, Ordering}
use Rattle.std.proofs.lemmas.List.{drop_more, drop_all, take-map}
use Rattle.std.proofs.lemmas.Bool.{lt-ltb, le-ltb}
use Rattle.blink_lists.specs.Lists.{put_in_order, in_order, numbered, numbered_from}
use Rattle.freq_partition.specs.Division.{saving_cmp}
use Rattle.freq_partition.specs.declared.column_choice.ColumnSaving.{ColumnSaving}
use Rattle.freq_partition.specs.ColumnChoice.{column_and_saving}
use Rattle.freq_partition.proofs.TopThreeLemmas.{take-put, map-put}

-- the columns from i on that save something, by falling saving
unfoldable pub savers_from : ℕ → List ℕ → List (ℕ × ℕ)
savers_from i savings = in_order saving_cmp (filter (λ p. nat_lt 0 p.1) (numbered_from i (drop i savings)))

-- a column that saves something is put among the greatest of those behind it
pub saver_first : (by : ColumnSaving → ColumnSaving → Ordering) (same : (x y : ColumnSaving) → saving_cmp (column_and_saving x) (column_and_saving y) ≡ by x y) (new : ColumnSaving) (held held' : List ColumnSaving) (savings : List ℕ) (j : ℕ)
    → held' ≡ take 3 (put_in_order by new held) → map column_and_saving held ≡ take 3 (savers_from j savings)
    → j ≡ new.column + 1 → j ≤ length savings → new.saving.0 ≡ get_or savings new.column 0 → 0 < new.saving.0
    → map column_and_saving held' ≡ take 3 (savers_from new.column savings)
unfolding savers_from
saver_first by same new held held' savings j put known next within here saves =
    let positive : nat_lt 0 new.saving.0 ≡ true = lt-ltb 0 new.saving.0 saves in
    let more = drop_more savings new.column 0 (omega arith) in
    let moved : map column_and_saving held' ≡ take 3 (put_in_order saving_cmp (column_and_saving new) (map column_and_saving held)) = ap (map column_and_saving) put ∙ (sym (take-map column_and_saving 3 _) ∙ ap (take 3) (sym (map-put column_and_saving by saving_cmp same new held))) in
    let front = take-put saving_cmp (column_and_saving new) 3 (savers_from (new.column + 1) savings) in
    moved ∙ rw (known, next, front, more, ← here) (rw (positive, filter) refl)

-- one that saves nothing is not
pub saver_skipped : (i j : ℕ) (savings : List ℕ) → j ≡ i + 1 → j ≤ length savings → get_or savings i 0 ≤ 0 → savers_from j savings ≡ savers_from i savings
unfolding savers_from
saver_skipped i j savings next within nothing =
    let none : nat_lt 0 (get_or savings i 0) ≡ false = le-ltb 0 (get_or savings i 0) nothing in
    let more = drop_more savings i 0 (omega arith) in
    rw (next, more) (rw (none, filter) refl)

pub savers_none : (i : ℕ) (savings : List ℕ) → length savings ≤ i → savers_from i savings ≡ []
unfolding savers_from
savers_none i savings past = rw (drop_all i savings past) refl

pub savers_all : (savings : List ℕ) → savers_from 0 savings ≡ in_order saving_cmp (filter (λ p. nat_lt 0 p.1) (numbered savings))
unfolding savers_from
savers_all savings = refl
