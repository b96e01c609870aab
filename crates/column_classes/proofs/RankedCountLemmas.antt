-- The counts of ranked values: what they are, that they never rise, and how many they are in all.
use Rattle.std.proofs.Common.{◌≡◌, ◌≤◌, ◌<◌, ℕ, zero, suc, ◌+◌, Bool, true, false, not, ◌||◌, List, [], ◌∷◌, ◌++◌, map, filter, take, length, get_or, slice_get, Some, None, sum, sum_by, nat_le, unwrap_or, pos, All, refl, sym, ap, ◌∙◌, true≢false, arith, inl, inr, ◌⊎◌}
use Rattle.std.specs.List.{list_all, list_any}
use Rattle.std.specs.Map.{keys_of, values_of}
use Rattle.std.specs.declared.cmp.Ordering.TheVariants.{Less, Greater}
use Rattle.std.specs.Ordering.{is_le}
use Rattle.std.specs.Cmp.{nat_cmp_is}
use Rattle.std.proofs.lemmas.Bool.{and_parts, and_from, le-leb, leb-true, cases_order}
use Rattle.std.proofs.lemmas.List.{get_or-map, length-map, take_more, take_all}
use Rattle.std.proofs.lemmas.List.Folds.{list_all-map}
use Rattle.std.proofs.lemmas.List.Sums.{sum_by-cons, sum-map, AllPass-from_list_all}
use Rattle.std.proofs.lemmas.Option.{slice_get_within}
use Rattle.blink_lists.specs.Lists.{put_in_order, in_order}
use Rattle.freq_partition.specs.Division.{never_rises}
use Rattle.blink_base.specs.declared.value.Value.{Value}
use Rattle.blink_base.specs.declared.value.Value.TheVariants.{Int}
use Rattle.blink_base.specs.Values.{same_value}
use Rattle.blink_base.specs.ValueHash.{value_equiv}
use Rattle.blink_histogram.specs.Ranks.{Counted, counted, count_of, rank_cmp, distinct_values}
use Rattle.column_classes.specs.ColumnClasses.{counts_of}
use Rattle.blink_lists.proofs.GroupLemmas.{all-imply}
use Rattle.blink_lists.proofs.AllLemmas.{all-part}
use Rattle.blink_lists.proofs.AnyLemmas.{some-count}

-- the count at a number
count_here : (it : List Counted) (n : ℕ) (c : Counted) → slice_get it n ≡ Some c → slice_get (values_of it) n ≡ Some c.1
count_here [] n c e = cc
count_here (x ∷ it) zero c e = ap Some (ap (λ (x : Counted). x.1) (ap (λ o. unwrap_or o c) e))
count_here (x ∷ it) (suc n) c e = count_here it n c e

module _ (it : List Counted) (numbers : List ℕ) (xs : List Counted) (found : map (slice_get it) numbers ≡ map Some xs) where
  abbrev none : Counted
  none = (Int (pos 0), 0)

  as_long : length numbers ≡ length xs
  as_long = sym (length-map numbers (slice_get it)) ∙ ap length found ∙ length-map xs (λ (c : Counted). Some c)

  at_number : (k n : ℕ) → n ≡ get_or numbers k 0 → k < length numbers → slice_get it n ≡ Some (get_or xs k none)
  at_number k n is lt =
      let l = as_long in
      ap (slice_get it) is ∙ sym (get_or-map (slice_get it) numbers k 0 None lt) ∙ ap (λ o. get_or o k None) found ∙ get_or-map (λ (c : Counted). Some c) xs k none None (omega arith)

  -- a number that is ranked is a value's
  pub number_within : (k n : ℕ) → n ≡ get_or numbers k 0 → k < length numbers → n < length it
  number_within k n is lt = slice_get_within it n (get_or xs k none) (at_number k n is lt)

  -- one more count
  pub counts_more : (k n count : ℕ) (so_far more : List ℕ) → n ≡ get_or numbers k 0 → k < length numbers → slice_get (values_of it) n ≡ Some count → so_far ≡ take k (counts_of xs) → more ≡ so_far ++ count ∷ []
      → more ≡ take (k + 1) (counts_of xs)
  counts_more k n count so_far more is lt here front pushed =
      let l = as_long in
      let m = length-map xs (λ (c : Counted). c.1) in
      let one : Some count ≡ Some (get_or xs k none).1 = sym here ∙ count_here it n (get_or xs k none) (at_number k n is lt) in
      let same : count ≡ (get_or xs k none).1 = ap (λ o. unwrap_or o 0) one in
      let value : get_or (counts_of xs) k 0 ≡ (get_or xs k none).1 = get_or-map (λ (c : Counted). c.1) xs k none 0 (omega arith) in
      pushed ∙ (λ i. front i ++ same i ∷ []) ∙ ap (λ x. take k (counts_of xs) ++ x ∷ []) (sym value) ∙ sym (take_more (counts_of xs) k 0 (omega arith))

-- by rank, counts never rise
rank-le : (x y : Counted) → is_le (rank_cmp x y) ≡ true → y.1 ≤ x.1
rank-le x y e = by (cases_order y.1 x.1)
  where
    by : (y.1 ≡ x.1) ⊎ ((y.1 < x.1) ⊎ (x.1 < y.1)) → y.1 ≤ x.1
    by (inl same) = omega arith
    by (inr (inl less)) = omega arith
    by (inr (inr more)) = absurd (true≢false (sym e ∙ rw (← nat_cmp_is y.1 x.1 Greater more) refl))

rank-more : (x y : Counted) → is_le (rank_cmp x y) ≡ false → x.1 ≤ y.1
rank-more x y e = by (cases_order y.1 x.1)
  where
    by : (y.1 ≡ x.1) ⊎ ((y.1 < x.1) ⊎ (x.1 < y.1)) → x.1 ≤ y.1
    by (inl same) = omega arith
    by (inr (inl less)) = absurd (true≢false (sym (rw (← nat_cmp_is y.1 x.1 Less less) refl) ∙ e))
    by (inr (inr more)) = omega arith

never-tail : (y : Counted) (zs : List Counted) → never_rises (counts_of (y ∷ zs)) ≡ true → never_rises (counts_of zs) ≡ true
never-tail y [] e = refl
never-tail y (z ∷ zs) e = (and_parts (nat_le z.1 y.1) (never_rises (counts_of (z ∷ zs))) e).1

never-behind : (x y : Counted) (zs : List Counted) → never_rises (counts_of (y ∷ zs)) ≡ true → never_rises (counts_of (put_in_order rank_cmp x zs)) ≡ true → x.1 ≤ y.1 → never_rises (counts_of (y ∷ put_in_order rank_cmp x zs)) ≡ true
never-behind x y [] up rest le = and_from (nat_le x.1 y.1) true (le-leb x.1 y.1 le) refl
never-behind x y (z ∷ zs) up rest le = next (is_le (rank_cmp x z)) refl
  where
    next : (b : Bool) → is_le (rank_cmp x z) ≡ b → never_rises (counts_of (y ∷ put_in_order rank_cmp x (z ∷ zs))) ≡ true
    next true e =
        let before : put_in_order rank_cmp x (z ∷ zs) ≡ x ∷ z ∷ zs = rw (put_in_order, e) refl in
        ap (λ l. never_rises (counts_of (y ∷ l))) before
        ∙ and_from (nat_le x.1 y.1) (never_rises (counts_of (x ∷ z ∷ zs))) (le-leb x.1 y.1 le) (sym (ap (λ l. never_rises (counts_of l)) before) ∙ rest)
    next false e =
        let after : put_in_order rank_cmp x (z ∷ zs) ≡ z ∷ put_in_order rank_cmp x zs = rw (put_in_order, e) refl in
        let first = (and_parts (nat_le z.1 y.1) (never_rises (counts_of (z ∷ zs))) up).0 in
        ap (λ l. never_rises (counts_of (y ∷ l))) after
        ∙ and_from (nat_le z.1 y.1) (never_rises (counts_of (z ∷ put_in_order rank_cmp x zs))) first (sym (ap (λ l. never_rises (counts_of l)) after) ∙ rest)

never-put : (x : Counted) (ys : List Counted) → never_rises (counts_of ys) ≡ true → never_rises (counts_of (put_in_order rank_cmp x ys)) ≡ true
never-put x [] up = refl
never-put x (y ∷ ys) up = by (is_le (rank_cmp x y)) refl (never-put x ys (never-tail y ys up))
  where
    by : (b : Bool) → is_le (rank_cmp x y) ≡ b → never_rises (counts_of (put_in_order rank_cmp x ys)) ≡ true → never_rises (counts_of (put_in_order rank_cmp x (y ∷ ys))) ≡ true
    by true e rest = rw (put_in_order, e) (and_from (nat_le y.1 x.1) (never_rises (counts_of (y ∷ ys))) (le-leb y.1 x.1 (rank-le x y e)) up)
    by false e rest = rw (put_in_order, e) (never-behind x y ys up rest (rank-more x y e))

pub ranked_never_rise : (cs : List Counted) → never_rises (counts_of (in_order rank_cmp cs)) ≡ true
ranked_never_rise [] = refl
ranked_never_rise (c ∷ cs) = never-put c (in_order rank_cmp cs) (ranked_never_rise cs)

-- how many there are in all
sum-put : (f : Counted → ℕ) (x : Counted) (ys : List Counted) → sum_by f (put_in_order rank_cmp x ys) ≡ f x + sum_by f ys
sum-put f x [] = sum_by-cons f x []
sum-put f x (y ∷ ys) = by (is_le (rank_cmp x y)) refl (sum-put f x ys)
  where
    by : (b : Bool) → is_le (rank_cmp x y) ≡ b → sum_by f (put_in_order rank_cmp x ys) ≡ f x + sum_by f ys → sum_by f (put_in_order rank_cmp x (y ∷ ys)) ≡ f x + sum_by f (y ∷ ys)
    by true e rest = rw (put_in_order, e) (sum_by-cons f x (y ∷ ys))
    by false e rest = rw (put_in_order, e, sum_by-cons f y (put_in_order rank_cmp x ys), rest, sum_by-cons f y ys) (omega arith)

sum-ranked : (f : Counted → ℕ) (cs : List Counted) → sum_by f (in_order rank_cmp cs) ≡ sum_by f cs
sum-ranked f [] = refl
sum-ranked f (c ∷ cs) = sum-put f c (in_order rank_cmp cs) ∙ ap (λ n. f c + n) (sum-ranked f cs) ∙ sym (sum_by-cons f c cs)

pub ranked_sum : (cs : List Counted) → sum (counts_of (in_order rank_cmp cs)) ≡ sum_by (λ (c : Counted). c.1) cs
ranked_sum cs = sum-map (λ (c : Counted). c.1) (in_order rank_cmp cs) ∙ sum-ranked (λ (c : Counted). c.1) cs

-- each value stands in its column
all-put : (p : Counted → Bool) (x : Counted) (ys : List Counted) → p x ≡ true → list_all p ys ≡ true → list_all p (put_in_order rank_cmp x ys) ≡ true
all-put p x [] here rest = and_from (p x) true here refl
all-put p x (y ∷ ys) here rest = by (is_le (rank_cmp x y)) refl (all-put p x ys here (and_parts (p y) (list_all p ys) rest).1)
  where
    by : (b : Bool) → is_le (rank_cmp x y) ≡ b → list_all p (put_in_order rank_cmp x ys) ≡ true → list_all p (put_in_order rank_cmp x (y ∷ ys)) ≡ true
    by true e more = rw (put_in_order, e) (and_from (p x) (list_all p (y ∷ ys)) here rest)
    by false e more = rw (put_in_order, e) (and_from (p y) (list_all p (put_in_order rank_cmp x ys)) (and_parts (p y) (list_all p ys) rest).0 more)

all-ranked : (p : Counted → Bool) (cs : List Counted) → list_all p cs ≡ true → list_all p (in_order rank_cmp cs) ≡ true
all-ranked p [] all = refl
all-ranked p (c ∷ cs) all = let parts = and_parts (p c) (list_all p cs) all in all-put p c (in_order rank_cmp cs) parts.0 (all-ranked p cs parts.1)

or-right : (a b : Bool) → b ≡ true → (a || b) ≡ true
or-right true b e = refl
or-right false b e = e

stands : (column : List Value) → list_all (λ v. list_any (same_value v) column) (distinct_values column) ≡ true
stands [] = refl
stands (x ∷ column) =
    and_from (list_any (same_value x) (x ∷ column)) (list_all (λ v. list_any (same_value v) (x ∷ column)) (filter (λ y. not (same_value x y)) (distinct_values column)))
    (ap (λ b. b || list_any (same_value x) column) (value_equiv.refl x))
    (all-imply (λ v. list_any (same_value v) column) (λ v. list_any (same_value v) (x ∷ column)) (λ v e. or-right (same_value v x) (list_any (same_value v) column) e) (filter (λ y. not (same_value x y)) (distinct_values column))
    (all-part (λ v. list_any (same_value v) column) (λ y. not (same_value x y)) (distinct_values column) (stands column)))

-- each value of a column is counted at least once
pub counted_positive : (column : List Value) (counts : List ℕ) → counts ≡ counts_of (in_order rank_cmp (counted column)) → All (λ n. 1 ≤ n) counts
counted_positive column counts e k d lt =
    let each = all-imply (λ v. list_any (same_value v) column) (λ v. nat_le 1 (count_of column v)) (λ v any. le-leb 1 (count_of column v) (some-count (same_value v) column any)) (distinct_values column) (stands column) in
    let all = all-ranked (λ c. nat_le 1 c.1) (counted column) (list_all-map (λ (c : Counted). nat_le 1 c.1) (λ (v : Value). (v, count_of column v)) (distinct_values column) ∙ each) in
    let here : list_all (nat_le 1) counts ≡ true = ap (list_all (nat_le 1)) e ∙ list_all-map (nat_le 1) (λ (c : Counted). c.1) (in_order rank_cmp (counted column)) ∙ all in
    leb-true 1 (get_or counts k d) (AllPass-from_list_all (nat_le 1) counts here k d lt)

pub counts_all : (it : List Counted) (numbers : List ℕ) (xs : List Counted) (k : ℕ) (counts : List ℕ) → map (slice_get it) numbers ≡ map Some xs → length numbers ≤ k → counts ≡ take k (counts_of xs) → counts ≡ counts_of xs
counts_all it numbers xs k counts found le front =
    let l = as_long it numbers xs found in
    let m = length-map xs (λ (c : Counted). c.1) in
    front ∙ take_all k (counts_of xs) (omega arith)

-- the value at a number
key_here : (it : List Counted) (n : ℕ) (c : Counted) → slice_get it n ≡ Some c → slice_get (keys_of it) n ≡ Some c.0
key_here [] n c e = cc
key_here (x ∷ it) zero c e = ap Some (ap (λ (x : Counted). x.0) (ap (λ o. unwrap_or o c) e))
key_here (x ∷ it) (suc n) c e = key_here it n c e

-- one more value
pub values_more : (it : List Counted) (numbers : List ℕ) (xs : List Counted) (k n : ℕ) (value copy : Value) (so_far more : List Value) → map (slice_get it) numbers ≡ map Some xs → n ≡ get_or numbers k 0 → k < length numbers
    → slice_get (keys_of it) n ≡ Some value → copy ≡ value → so_far ≡ take k (map (λ (c : Counted). c.0) xs) → more ≡ so_far ++ copy ∷ [] → more ≡ take (k + 1) (map (λ (c : Counted). c.0) xs)
values_more it numbers xs k n value copy so_far more found is lt here equal front pushed =
    let l = as_long it numbers xs found in
    let m = length-map xs (λ (c : Counted). c.0) in
    let one : Some value ≡ Some (get_or xs k (Int (pos 0), 0)).0 = sym here ∙ key_here it n (get_or xs k (Int (pos 0), 0)) (at_number it numbers xs found k n is lt) in
    let same : copy ≡ (get_or xs k (Int (pos 0), 0)).0 = equal ∙ ap (λ o. unwrap_or o (Int (pos 0))) one in
    let value_at : get_or (map (λ (c : Counted). c.0) xs) k (Int (pos 0)) ≡ (get_or xs k (Int (pos 0), 0)).0 = get_or-map (λ (c : Counted). c.0) xs k (Int (pos 0), 0) (Int (pos 0)) (omega arith) in
    pushed ∙ (λ i. front i ++ same i ∷ []) ∙ ap (λ x. take k (map (λ (c : Counted). c.0) xs) ++ x ∷ []) (sym value_at) ∙ sym (take_more (map (λ (c : Counted). c.0) xs) k (Int (pos 0)) (omega arith))

pub values_all : (it : List Counted) (numbers : List ℕ) (xs : List Counted) (k : ℕ) (values : List Value) → map (slice_get it) numbers ≡ map Some xs → length numbers ≤ k → values ≡ take k (map (λ (c : Counted). c.0) xs)
    → values ≡ map (λ (c : Counted). c.0) xs
values_all it numbers xs k values found le front =
    let l = as_long it numbers xs found in
    let m = length-map xs (λ (c : Counted). c.0) in
    front ∙ take_all k (map (λ (c : Counted). c.0) xs) (omega arith)
