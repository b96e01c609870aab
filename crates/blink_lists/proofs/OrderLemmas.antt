-- A list that never falls, with the elements of another, is that other list put in order, where elements that tie are equal.
use Rattle.std.proofs.Common.{◌≡◌, ℕ, suc, ◌+◌, Bool, true, false, List, [], ◌∷◌, sum_by, refl, sym, ap, ◌∙◌, true≢false, if◌then◌else◌, arith}
use Rattle.std.specs.Bool.{⊤}
use native.Mathlib.Numerals.{unary_clauses}
use Rattle.std.specs.declared.cmp.Ordering.{Ordering}
use Rattle.std.specs.declared.cmp.Ordering.TheVariants.{Less, Equal, Greater}
use Rattle.std.specs.Ordering.{is_lt, is_le, is_eq, ordering_reverse}
use Rattle.std.specs.Cmp.{IsTotalOrder, IsStrictWeakOrder}
use Rattle.std.specs.List.Sorted.{IsSorted, IsPermutation}
use Rattle.std.proofs.lemmas.List.MinMax.{ranks_by}
use Rattle.std.proofs.lemmas.List.Sums.{sum_by-cons}
use Rattle.std.proofs.lemmas.List.Sorted.{sum_by-IsPermutation}
use Rattle.blink_lists.specs.Lists.{put_in_order, in_order}
use Rattle.blink_lists.specs.Rearrangement.{Rearranged}
use Rattle.blink_lists.specs.Rearrangement.Rearranged.{none, kept, swapped, followed}
use Rattle.blink_lists.proofs.RearrangementLemmas.{sum-rearranged, itself as unmoved}

-- orderings and their tests
pub less_is : (o : Ordering) → is_lt o ≡ true → o ≡ Less
less_is Less e = refl
less_is Equal e = cc
less_is Greater e = cc

pub equal_is : (o : Ordering) → is_eq o ≡ true → o ≡ Equal
equal_is Less e = cc
equal_is Equal e = refl
equal_is Greater e = cc

behind : (r : Ordering) → is_le r ≡ false → is_lt r ≡ false
behind Less h = absurd (true≢false h)
behind Equal h = absurd (true≢false h)
behind Greater h = refl

turned : (r : Ordering) → is_le r ≡ true → is_lt (ordering_reverse r) ≡ false
turned Less h = refl
turned Equal h = refl
turned Greater h = absurd (true≢false (sym h))

tied : (r : Ordering) → is_lt r ≡ false → is_lt (ordering_reverse r) ≡ false → r ≡ Equal
tied Less h k = absurd (true≢false h)
tied Equal h k = refl
tied Greater h k = absurd (true≢false k)

module _ {X : Type 0} (cmp : X → X → Ordering) where
  -- no element is less than x
  abbrev NoneLess : X → List X → Type 0
  NoneLess x [] = ⊤
  NoneLess x (y ∷ ys) = (is_lt (cmp y x) ≡ false) × NoneLess x ys

  -- no element is less than one before it
  abbrev Rising : List X → Type 0
  Rising [] = ⊤
  Rising (x ∷ xs) = NoneLess x xs × Rising xs

  -- one where an element is less than z, else none
  abbrev less : X → X → ℕ
  less z y = if is_lt (cmp y z) then 1 else 0

  put-before : (x y : X) (ys : List X) → is_le (cmp x y) ≡ true → put_in_order cmp x (y ∷ ys) ≡ x ∷ y ∷ ys
  put-before x y ys e = rw (put_in_order, e) refl

  put-behind : (x y : X) (ys : List X) → is_le (cmp x y) ≡ false → put_in_order cmp x (y ∷ ys) ≡ y ∷ put_in_order cmp x ys
  put-behind x y ys e = rw (put_in_order, e) refl

  sum-put : (f : X → ℕ) (x : X) (ys : List X) → sum_by f (put_in_order cmp x ys) ≡ f x + sum_by f ys
  sum-put f x [] = sum_by-cons f x []
  sum-put f x (y ∷ ys) = by (is_le (cmp x y)) refl (sum-put f x ys)
    where
      by : (b : Bool) → is_le (cmp x y) ≡ b → sum_by f (put_in_order cmp x ys) ≡ f x + sum_by f ys → sum_by f (put_in_order cmp x (y ∷ ys)) ≡ f x + sum_by f (y ∷ ys)
      by true e rest = rw (put-before x y ys e) (sum_by-cons f x (y ∷ ys))
      by false e rest = rw (put-behind x y ys e, sum_by-cons f y (put_in_order cmp x ys), rest, sum_by-cons f y ys) (omega arith)

  sum-in_order : (f : X → ℕ) (xs : List X) → sum_by f (in_order cmp xs) ≡ sum_by f xs
  sum-in_order f [] = refl
  sum-in_order f (x ∷ xs) = sum-put f x (in_order cmp xs) ∙ ap (λ n. f x + n) (sum-in_order f xs) ∙ sym (sum_by-cons f x xs)

  -- where none is less than z, none counts
  none-less : (z : X) (ys : List X) → NoneLess z ys → sum_by (less z) ys ≡ 0
  none-less z [] n = refl
  none-less z (y ∷ ys) n = rw (sum_by-cons (less z) y ys, n.0, none-less z ys n.1) refl

  less-head : (z y : X) (ys : List X) → sum_by (less z) (y ∷ ys) ≡ 0 → is_lt (cmp y z) ≡ false
  less-head z y ys h = by (is_lt (cmp y z)) refl
    where
      by : (b : Bool) → is_lt (cmp y z) ≡ b → is_lt (cmp y z) ≡ false
      by true e = absurd (let k = rw (sum_by-cons (less z) y ys, e) at h in omega arith)
      by false e = e

  module _ (o : IsTotalOrder cmp) where
    weak : IsStrictWeakOrder (λ x y. is_lt (cmp x y))
    weak = ranks_by o (λ x. x)

    NoneLess-put : (x z : X) (ys : List X) → is_lt (cmp x z) ≡ false → NoneLess z ys → NoneLess z (put_in_order cmp x ys)
    NoneLess-put x z [] h n = (h, n)
    NoneLess-put x z (y ∷ ys) h n = by (is_le (cmp x y)) refl (NoneLess-put x z ys h n.1)
      where
        by : (b : Bool) → is_le (cmp x y) ≡ b → NoneLess z (put_in_order cmp x ys) → NoneLess z (put_in_order cmp x (y ∷ ys))
        by true e rest = rw (put-before x y ys e) (h, n)
        by false e rest = rw (put-behind x y ys e) (n.0, rest)

    -- none is less than what is no more than y
    NoneLess-below : (x y : X) (ys : List X) → is_lt (cmp y x) ≡ false → NoneLess y ys → NoneLess x ys
    NoneLess-below x y [] h n = n
    NoneLess-below x y (w ∷ ys) h n = (weak.chain w y x n.0 h, NoneLess-below x y ys h n.1)

    Rising-put : (x : X) (ys : List X) → Rising ys → Rising (put_in_order cmp x ys)
    Rising-put x [] r = (r, r)
    Rising-put x (y ∷ ys) r = by (is_le (cmp x y)) refl (Rising-put x ys r.1)
      where
        by : (b : Bool) → is_le (cmp x y) ≡ b → Rising (put_in_order cmp x ys) → Rising (put_in_order cmp x (y ∷ ys))
        by true e rest =
            let h : is_lt (cmp y x) ≡ false = ap is_lt (o.antisymm y x) ∙ turned (cmp x y) e in
            rw (put-before x y ys e) ((h, NoneLess-below x y ys h r.0), r)
        by false e rest = rw (put-behind x y ys e) (NoneLess-put x y ys (behind (cmp x y) e) r.0, rest)

    Rising-in_order : (xs : List X) → Rising (in_order cmp xs)
    Rising-in_order [] = tt
    Rising-in_order (x ∷ xs) = Rising-put x (in_order cmp xs) (Rising-in_order xs)

    tail-sorted : (x : X) (xs : List X) → IsSorted cmp (x ∷ xs) → IsSorted cmp xs
    tail-sorted x xs s k d low high = simp unary_clauses (simp unary_clauses at (s (suc k) d (omega arith) (omega arith)))

    head-least : (x : X) (xs : List X) → IsSorted cmp (x ∷ xs) → NoneLess x xs
    head-least x [] s = tt
    head-least x (y ∷ xs) s =
        let h : is_lt (cmp y x) ≡ false = s 0 x (omega arith) (omega arith) in
        (h, NoneLess-below x y xs h (head-least y xs (tail-sorted x (y ∷ xs) s)))

    Rising-sorted : (xs : List X) → IsSorted cmp xs → Rising xs
    Rising-sorted [] s = tt
    Rising-sorted (x ∷ xs) s = (head-least x xs s, Rising-sorted xs (tail-sorted x xs s))

    module _ (same : (x y : X) → cmp x y ≡ Equal → x ≡ y) where
      itself : (x : X) → is_lt (cmp x x) ≡ false
      itself x = by (is_lt (cmp x x)) refl
        where
          by : (b : Bool) → is_lt (cmp x x) ≡ b → is_lt (cmp x x) ≡ false
          by true e = weak.one_way x x e
          by false e = e

      -- two lists that never fall and count alike are one
      alike : (xs ys : List X) → Rising xs → Rising ys → ((f : X → ℕ) → sum_by f xs ≡ sum_by f ys) → xs ≡ ys
      alike [] [] r s h = refl
      alike [] (y ∷ ys) r s h = absurd (let k = h (λ x. 1) ∙ sum_by-cons (λ x. 1) y ys in omega arith)
      alike (x ∷ xs) [] r s h = absurd (let k = sym (sum_by-cons (λ x. 1) x xs) ∙ h (λ x. 1) in omega arith)
      alike (x ∷ xs) (y ∷ ys) r s h =
          let before : is_lt (cmp y x) ≡ false = less-head x y ys (sym (h (less x)) ∙ none-less x (x ∷ xs) (itself x, r.0)) in
          let after : is_lt (cmp x y) ≡ false = less-head y x xs (h (less y) ∙ none-less y (y ∷ ys) (itself y, s.0)) in
          let one : x ≡ y = same x y (tied (cmp x y) after (ap is_lt (sym (o.antisymm y x)) ∙ before)) in
          let rest = alike xs ys r.1 s.1 (λ f.
          let whole = sym (sum_by-cons f x xs) ∙ h f ∙ sum_by-cons f y ys in
          let front = ap f one in
          omega arith) in
          rw (one, rest) refl

      -- what a sort gives is the list in order
      pub sorted_in_order : (xs ys : List X) → IsPermutation xs ys → IsSorted cmp ys → ys ≡ in_order cmp xs
      sorted_in_order xs ys p s = alike ys (in_order cmp xs) (Rising-sorted ys s) (Rising-in_order xs)
          (λ f. sum_by-IsPermutation f xs ys p ∙ sym (sum-in_order f xs))

      -- and lists with the same elements have one order
      pub in_order_rearranged : (xs ys : List X) → Rearranged xs ys → in_order cmp xs ≡ in_order cmp ys
      in_order_rearranged xs ys r = alike (in_order cmp xs) (in_order cmp ys) (Rising-in_order xs) (Rising-in_order ys)
          (λ f. sum-in_order f xs ∙ sum-rearranged f r ∙ sym (sum-in_order f ys))

-- a list put in order is the list in another order
module _ {X : Type 0} (cmp : X → X → Ordering) where
  rearranged-put : (x : X) (ys : List X) → Rearranged (x ∷ ys) (put_in_order cmp x ys)
  rearranged-put x [] = unmoved (x ∷ [])
  rearranged-put x (y ∷ ys) = by (is_le (cmp x y)) refl (rearranged-put x ys)
    where
      by : (b : Bool) → is_le (cmp x y) ≡ b → Rearranged (x ∷ ys) (put_in_order cmp x ys) → Rearranged (x ∷ y ∷ ys) (put_in_order cmp x (y ∷ ys))
      by true e rest = rw (put_in_order, e) (unmoved (x ∷ y ∷ ys))
      by false e rest = rw (put_in_order, e) (followed (swapped x y ys) (kept y rest))

  pub rearranged-in_order : (xs : List X) → Rearranged xs (in_order cmp xs)
  rearranged-in_order [] = none
  rearranged-in_order (x ∷ xs) = followed (kept x (rearranged-in_order xs)) (rearranged-put x (in_order cmp xs))
