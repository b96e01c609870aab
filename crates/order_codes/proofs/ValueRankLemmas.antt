-- Values that rise, and the numbers of the smaller ones.
use Rattle.std.proofs.Common.{◌≡◌, ℕ, zero, suc, ◌+◌, ◌<◌, ◌≤◌, Bool, true, false, not, List, [], ◌∷◌, get_or, length, cond, refl, sym, ap, ◌∙◌, arith, inl, inr, Result, Ok, Err}
use Rattle.std.specs.Result.{MatchResult, is_ok}
use Rattle.std.specs.declared.cmp.Ordering.TheVariants.{Less, Equal, Greater}
use Rattle.std.specs.Ordering.{is_lt, is_eq, nat_cmp, ordering_reverse, ordering_index}
use Rattle.std.specs.Cmp.{nat_cmp_is}
use Rattle.std.specs.List.{list_all, list_any}
use Rattle.std.specs.List.Sorted.{IsNonDecreasingBy, IsBinarySearchResult, IsSearchInRange}
use Rattle.std.proofs.lemmas.Bool.{and_parts, and_from, cases_order, cases_lt, or_cases, true≢false, false_from_ne_true, or_from, not_from_false}
use Rattle.std.proofs.lemmas.Cmp.{tied_itself}
use Rattle.std.proofs.lemmas.List.Sums.{sum_by-cons}
use Rattle.std.proofs.lemmas.List.Sorted.{searchable_from_sorted}
use Rattle.std.proofs.lemmas.List.Folds.{list_any_at}
use Rattle.blink_lists.specs.Lists.{rises, are_distinct}
use Rattle.blink_base.specs.declared.value.Value.{Value}
use Rattle.blink_base.specs.Values.{value_cmp, same_value}
use Rattle.blink_base.specs.ValueOrder.{value_total, value_same}
use Rattle.order_codes.specs.Dictionary.{below}
use Rattle.blink_lists.proofs.AllLemmas.{all_at}
use Rattle.blink_lists.proofs.OrderLemmas.{less_is, equal_is}

-- of two values the smaller is below, and the other isn't
pub turned : (x y : Value) → value_cmp x y ≡ Less → value_cmp y x ≡ Greater
turned x y less = value_total.antisymm y x ∙ ap ordering_reverse less

above : Value → List Value → Bool
above x ys = list_all (λ y. is_lt (value_cmp x y)) ys

above_more : (x y : Value) (zs : List Value) → value_cmp x y ≡ Less → above y zs ≡ true → above x zs ≡ true
unfolding above
above_more x y [] less all = refl
above_more x y (z ∷ zs) less all =
    let parts = and_parts (is_lt (value_cmp y z)) (above y zs) all in
    let first = ap is_lt (value_total.trans x y z less (less_is (value_cmp y z) parts.0)) in
    and_from (is_lt (value_cmp x z)) (above x zs) first (above_more x y zs less parts.1)

-- behind the first, all are above it
above_all : (x : Value) (ys : List Value) → rises value_cmp (x ∷ ys) ≡ true → above x ys ≡ true
unfolding above
above_all x [] up = refl
above_all x (y ∷ ys) up =
    let parts = and_parts (is_lt (value_cmp x y)) (rises value_cmp (y ∷ ys)) up in
    and_from (is_lt (value_cmp x y)) (above x ys) parts.0 (above_more x y ys (less_is (value_cmp x y) parts.0) (above_all y ys parts.1))

pub rises_tail : (x : Value) (ys : List Value) → rises value_cmp (x ∷ ys) ≡ true → rises value_cmp ys ≡ true
rises_tail x [] up = refl
rises_tail x (y ∷ ys) up = (and_parts (is_lt (value_cmp x y)) (rises value_cmp (y ∷ ys)) up).1

-- of two places the first has the smaller value
pub less_at : (xs : List Value) (i j : ℕ) (d : Value) → rises value_cmp xs ≡ true → i < j → j < length xs → value_cmp (get_or xs i d) (get_or xs j d) ≡ Less
unfolding above
less_at [] i j d up lt within = absurd (omega arith)
less_at (x ∷ xs) i zero d up lt within = absurd (omega arith)
less_at (x ∷ xs) zero (suc j) d up lt within = less_is _ (all_at (λ y. is_lt (value_cmp x y)) xs j d (above_all x xs up) (omega arith))
less_at (x ∷ xs) (suc i) (suc j) d up lt within = less_at xs i j d (rises_tail x xs up) (omega arith) (omega arith)

-- values compare as their places do
pub order_at : (xs : List Value) (i j : ℕ) (d : Value) → rises value_cmp xs ≡ true → i < length xs → j < length xs → nat_cmp i j ≡ value_cmp (get_or xs i d) (get_or xs j d)
order_at xs i j d up li lj = elim (cases_order i j) [
  | inl same ↦ sym (nat_cmp_is i j Equal same) ∙ sym (rw same (tied_itself value_total (get_or xs j d)))
  | inr other ↦ elim other [
    | inl less ↦ sym (nat_cmp_is i j Less less) ∙ sym (less_at xs i j d up less lj)
    | inr more ↦ sym (nat_cmp_is i j Greater more) ∙ sym (turned (get_or xs j d) (get_or xs i d) (less_at xs j i d up more li))
  ]
]

-- the number of smaller values is where the values below end and the others begin
pub below_point : (v : Value) (xs : List Value) (i : ℕ) → i ≤ length xs
    → ((k : ℕ) → k < i → is_lt (value_cmp (get_or xs k v) v) ≡ true)
    → ((k : ℕ) → i ≤ k → k < length xs → is_lt (value_cmp (get_or xs k v) v) ≡ false) → below xs v ≡ i
below_point v [] i within front back = omega arith
below_point v (x ∷ xs) zero within front back =
    let rest = below_point v xs zero (omega arith) (λ k lt. absurd (omega arith)) (λ k le lt. back (suc k) (omega arith) (omega arith)) in
    let first : is_lt (value_cmp x v) ≡ false = back 0 (omega arith) (omega arith) in
    sum_by-cons (λ y. cond (is_lt (value_cmp y v)) 1 0) x xs ∙ rw (first, rest) refl
below_point v (x ∷ xs) (suc i) within front back =
    let rest = below_point v xs i (omega arith) (λ k lt. front (suc k) (omega arith)) (λ k le lt. back (suc k) (omega arith) (omega arith)) in
    let first : is_lt (value_cmp x v) ≡ true = front 0 (omega arith) in
    sum_by-cons (λ y. cond (is_lt (value_cmp y v)) 1 0) x xs ∙ rw (first, rest) (omega arith)

-- the code of the value at a place is the place
pub code_at : (xs : List Value) (i : ℕ) (v : Value) → rises value_cmp xs ≡ true → i < length xs → get_or xs i v ≡ v → below xs v ≡ i
code_at xs i v up within is = below_point v xs i (omega arith)
    (λ k lt. ap is_lt (rw is at (less_at xs k i v up lt within)))
    (λ k le lt. elim (cases_order i k) [
      | inl same ↦ rw (← same, is) (ap is_lt (tied_itself value_total v))
      | inr other ↦ elim other [
        | inl less ↦ ap is_lt (turned v (get_or xs k v) (rw is at (less_at xs i k v up less lt)))
        | inr more ↦ absurd (omega arith)
      ]
    ])

-- a value among others, and its place
pub held : (v : Value) (xs : List Value) → list_any (same_value v) xs ≡ true → (i : ℕ) × (i < length xs) × ((d : Value) → get_or xs i d ≡ v)
held v [] any = absurd (true≢false (sym any))
held v (x ∷ xs) any = elim (or_cases (same_value v x) (list_any (same_value v) xs) any) [
  | inl here ↦ (0, omega arith, λ d. sym (value_same v x (equal_is (value_cmp v x) here)))
  | inr later ↦ let found = held v xs later in (suc found.0, omega arith, λ d. found.2 d)
]

-- a value at a place is among the others
pub among : (v : Value) (xs : List Value) (i : ℕ) → i < length xs → get_or xs i v ≡ v → list_any (same_value v) xs ≡ true
among v xs i within is = list_any_at (same_value v) xs i v within (rw is (ap is_eq (tied_itself value_total v)))

-- rising values may be searched
pub searchable : (xs : List Value) (v : Value) → rises value_cmp xs ≡ true → IsNonDecreasingBy (λ y. ordering_index (value_cmp y v)) xs
searchable xs v up = searchable_from_sorted value_total (λ x. x) xs v (λ k d low lt. ap is_lt (turned (get_or xs k d) (get_or xs (k + 1) d) (less_at xs k (k + 1) d up (omega arith) lt)))

missing : (v : Value) (xs : List Value) (i : ℕ) → ((k : ℕ) → k < i → value_cmp (get_or xs k v) v ≡ Less) → ((k : ℕ) → i ≤ k → k < length xs → value_cmp (get_or xs k v) v ≡ Greater)
    → ((k : ℕ) × (k < length xs) × ((d : Value) → get_or xs k d ≡ v)) → ⊥
missing v xs i front back found =
    let tied : value_cmp (get_or xs found.0 v) v ≡ Equal = rw (found.2 v) (tied_itself value_total v) in
    elim (cases_lt found.0 i) [
      | inl less ↦ let e = front found.0 less in cc
      | inr more ↦ let e = back found.0 more found.1 in cc
    ]

-- what a binary search among rising values finds: the number of smaller values, and whether the value is one of them
pub record IsCode (xs : List Value) (v : Value) (r : Result ℕ ℕ) : Type 0 where
  pub smaller : MatchResult r (λ code. code ≡ below xs v) (λ code. code ≡ below xs v)
  pub found : is_ok r ≡ list_any (same_value v) xs

pub searched : (xs : List Value) (v : Value) (r : Result ℕ ℕ) → rises value_cmp xs ≡ true → IsSearchInRange r (length xs) → IsBinarySearchResult (λ y. value_cmp y v) xs r → IsCode xs v r
searched xs v (Ok i) up within found =
    let is : get_or xs i v ≡ v = value_same (get_or xs i v) v (found v) in
    record {
      smaller = sym (code_at xs i v up within is);
      found = sym (among v xs i within is);
    }
searched xs v (Err i) up within found =
    let point = found (searchable xs v up) in
    record {
      smaller = sym (below_point v xs i within (λ k lt. ap is_lt (point.0 k v (omega arith) lt)) (λ k le lt. ap is_lt (point.1 k v le lt)));
      found = sym (false_from_ne_true _ (λ any. missing v xs i (λ k lt. point.0 k v (omega arith) lt) (λ k le lt. point.1 k v le lt) (held v xs any)));
    }

pub rises_short : (xs : List Value) → length xs < 2 → rises value_cmp xs ≡ true
rises_short [] short = refl
rises_short (x ∷ []) short = refl
rises_short (x ∷ y ∷ xs) short = absurd (omega arith)

above_none : (x : Value) (ys : List Value) → above x ys ≡ true → list_any (same_value x) ys ≡ false
unfolding above
above_none x [] all = refl
above_none x (y ∷ ys) all =
    let parts = and_parts (is_lt (value_cmp x y)) (above x ys) all in
    or_from (same_value x y) (list_any (same_value x) ys) (ap is_eq (less_is (value_cmp x y) parts.0)) (above_none x ys parts.1)

-- values that rise are distinct
pub distinct_rising : (xs : List Value) → rises value_cmp xs ≡ true → are_distinct same_value xs ≡ true
distinct_rising [] up = refl
distinct_rising (x ∷ xs) up =
    and_from (not (list_any (same_value x) xs)) (are_distinct same_value xs)
    (not_from_false _ (above_none x xs (above_all x xs up))) (distinct_rising xs (rises_tail x xs up))
