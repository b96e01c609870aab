-- Distinct elements in order rise strictly.
use Rattle.std.proofs.Common.{◌≡◌, Bool, true, false, not, List, [], ◌∷◌, refl, sym, ap, ◌∙◌, true≢false}
use Rattle.std.specs.List.{list_any}
use Rattle.std.specs.declared.cmp.Ordering.{Ordering}
use Rattle.std.specs.declared.cmp.Ordering.TheVariants.{Less, Equal, Greater}
use Rattle.std.specs.Ordering.{is_lt, is_le, is_eq, ordering_reverse}
use Rattle.std.specs.Cmp.{IsTotalOrder}
use Rattle.std.proofs.lemmas.Bool.{and_parts, and_from, or_parts, or_from, not-true, not_from_false}
use Rattle.blink_lists.specs.Lists.{put_in_order, in_order, rises, are_distinct}
use Rattle.blink_lists.proofs.AnyLemmas.{any-rearranged}
use Rattle.blink_lists.proofs.OrderLemmas.{less_is, rearranged-in_order}

at_most : (r : Ordering) → is_le r ≡ true → is_eq r ≡ false → is_lt r ≡ true
at_most Less h e = refl
at_most Equal h e = absurd (true≢false e)
at_most Greater h e = absurd (true≢false (sym h))

below_le : (r : Ordering) → is_lt r ≡ true → is_le r ≡ true
below_le Less h = refl
below_le Equal h = absurd (true≢false (sym h))
below_le Greater h = absurd (true≢false (sym h))

above : (r : Ordering) → is_le r ≡ false → is_lt (ordering_reverse r) ≡ true
above Less h = absurd (true≢false h)
above Equal h = absurd (true≢false h)
above Greater h = refl

module _ {X : Type 0} (cmp : X → X → Ordering) (o : IsTotalOrder cmp) where
  -- an element stands before the first that it is put among
  rises-before : (x y : X) (ys : List X) → is_lt (cmp y x) ≡ true → rises cmp (y ∷ ys) ≡ true → rises cmp (put_in_order cmp x ys) ≡ true → rises cmp (y ∷ put_in_order cmp x ys) ≡ true
  rises-before x y [] less up rest = and_from (is_lt (cmp y x)) true less refl
  rises-before x y (z ∷ zs) less up rest = by (is_le (cmp x z)) refl rest
    where
      by : (b : Bool) → is_le (cmp x z) ≡ b → rises cmp (put_in_order cmp x (z ∷ zs)) ≡ true → rises cmp (y ∷ put_in_order cmp x (z ∷ zs)) ≡ true
      by true e rest = rw (put_in_order, e) (and_from (is_lt (cmp y x)) (rises cmp (x ∷ z ∷ zs)) less (rw (put_in_order, e) at rest))
      by false e rest = rw (put_in_order, e) (and_from (is_lt (cmp y z)) (rises cmp (z ∷ put_in_order cmp x zs)) (and_parts (is_lt (cmp y z)) (rises cmp (z ∷ zs)) up).0 (rw (put_in_order, e) at rest))

  rises-tail : (y : X) (ys : List X) → rises cmp (y ∷ ys) ≡ true → rises cmp ys ≡ true
  rises-tail y [] up = refl
  rises-tail y (z ∷ zs) up = (and_parts (is_lt (cmp y z)) (rises cmp (z ∷ zs)) up).1

  rises-put : (x : X) (ys : List X) → list_any (λ y. is_eq (cmp x y)) ys ≡ false → rises cmp ys ≡ true → rises cmp (put_in_order cmp x ys) ≡ true
  rises-put x [] new up = refl
  rises-put x (y ∷ ys) new up =
      let parts = or_parts (is_eq (cmp x y)) (list_any (λ z. is_eq (cmp x z)) ys) new in
      by (is_le (cmp x y)) refl parts.0 (rises-put x ys parts.1 (rises-tail y ys up))
    where
      by : (b : Bool) → is_le (cmp x y) ≡ b → is_eq (cmp x y) ≡ false → rises cmp (put_in_order cmp x ys) ≡ true → rises cmp (put_in_order cmp x (y ∷ ys)) ≡ true
      by true e other rest = rw (put_in_order, e) (and_from (is_lt (cmp x y)) (rises cmp (y ∷ ys)) (at_most (cmp x y) e other) up)
      by false e other rest = rw (put_in_order, e) (rises-before x y ys (ap is_lt (o.antisymm y x) ∙ above (cmp x y) e) up rest)

  pub rises-in_order : (xs : List X) → are_distinct (λ x y. is_eq (cmp x y)) xs ≡ true → rises cmp (in_order cmp xs) ≡ true
  rises-in_order [] each = refl
  rises-in_order (x ∷ xs) each =
      let parts = and_parts (not (list_any (λ y. is_eq (cmp x y)) xs)) (are_distinct (λ y z. is_eq (cmp y z)) xs) each in
      rises-put x (in_order cmp xs) (sym (any-rearranged (λ y. is_eq (cmp x y)) (rearranged-in_order cmp xs)) ∙ not-true _ parts.0) (rises-in_order xs parts.1)

-- what rises stands in order
pub in_order_rising : {X : Type 0} (cmp : X → X → Ordering) (xs : List X) → rises cmp xs ≡ true → in_order cmp xs ≡ xs
in_order_rising cmp [] up = refl
in_order_rising cmp (x ∷ []) up = refl
in_order_rising cmp (x ∷ y ∷ ys) up =
    let parts = and_parts (is_lt (cmp x y)) (rises cmp (y ∷ ys)) up in
    ap (put_in_order cmp x) (in_order_rising cmp (y ∷ ys) parts.1) ∙ rw (put_in_order, below_le (cmp x y) parts.0) refl

-- and is distinct
module _ {X : Type 0} (cmp : X → X → Ordering) (o : IsTotalOrder cmp) where
  below_all : (x y : X) (ys : List X) → is_lt (cmp x y) ≡ true → rises cmp (y ∷ ys) ≡ true → list_any (λ z. is_eq (cmp x z)) (y ∷ ys) ≡ false
  below_all x y [] less up = or_from (is_eq (cmp x y)) false (ap is_eq (less_is (cmp x y) less)) refl
  below_all x y (z ∷ zs) less up =
      let parts = and_parts (is_lt (cmp y z)) (rises cmp (z ∷ zs)) up in
      let next : is_lt (cmp x z) ≡ true = ap is_lt (o.trans x y z (less_is (cmp x y) less) (less_is (cmp y z) parts.0)) in
      or_from (is_eq (cmp x y)) (list_any (λ w. is_eq (cmp x w)) (z ∷ zs)) (ap is_eq (less_is (cmp x y) less)) (below_all x z zs next parts.1)

  pub distinct_rises : (xs : List X) → rises cmp xs ≡ true → are_distinct (λ x y. is_eq (cmp x y)) xs ≡ true
  distinct_rises [] up = refl
  distinct_rises (x ∷ []) up = refl
  distinct_rises (x ∷ y ∷ ys) up =
      let parts = and_parts (is_lt (cmp x y)) (rises cmp (y ∷ ys)) up in
      and_from (not (list_any (λ z. is_eq (cmp x z)) (y ∷ ys))) (are_distinct (λ z w. is_eq (cmp z w)) (y ∷ ys)) (not_from_false _ (below_all x y ys parts.0 parts.1)) (distinct_rises (y ∷ ys) parts.1)
