-- Parts of rows, merged.
use Rattle.std.proofs.Common.{◌≡◌, ℤ, ◌+ℤ◌, Bool, true, false, List, [], ◌∷◌, ◌++◌, map, Option, Some, None, refl, sym, ap, ◌∙◌, true≢false, length-append}
use Rattle.std.proofs.Math.IntN.{+ℤ_assoc, +ℤ_idl}
use Rattle.std.proofs.lemmas.List.{map-append}
use Rattle.std.specs.declared.cmp.Ordering.{Ordering}
use Rattle.std.specs.declared.cmp.Ordering.TheVariants.{Less, Equal, Greater}
use Rattle.std.specs.Ordering.{is_le, ordering_reverse, flip_args}
use Rattle.std.specs.Cmp.{IsTotalOrder}
use Rattle.std.proofs.lemmas.Cmp.{back_total}
use Rattle.blink_base.specs.Values.{value_cmp}
use Rattle.blink_base.specs.ValueOrder.{value_total}
use Rattle.blink_base.specs.Lines.{sum_of}
use Rattle.blink_lists.specs.Lists.{put_in_order, in_order, first_of}
use Rattle.late_decode.specs.declared.plan.Measure.{Measure}
use Rattle.late_decode.specs.declared.plan.Measure.TheVariants.{Count, Sum, Average, Least, Greatest}
use Rattle.late_decode.specs.Parts.{Picked, formula_number, either_of, lesser, no_part, merged_bound, merged_parts, no_parts, measure_sum, measure_bound, part_over, parts_over}
use Rattle.late_decode.specs.Laws.{PartsMerge}

sum_of-append : (xs ys : List ℤ) → sum_of (xs ++ ys) ≡ sum_of xs +ℤ sum_of ys
sum_of-append [] ys = sym (+ℤ_idl (sum_of ys))
sum_of-append (x ∷ xs) ys = ap (λ n. x +ℤ n) (sum_of-append xs ys) ∙ sym (+ℤ_assoc x (sum_of xs) (sum_of ys))

module _ {X : Type 0} (cmp : X → X → Ordering) (o : IsTotalOrder cmp) where
  le_equal : (x y z : X) → cmp x y ≡ Equal → is_le (cmp y z) ≡ true → is_le (cmp x z) ≡ true
  le_equal x y z e h = ap is_le (o.congr x y z e) ∙ h

  le_less : (x y z : X) (r : Ordering) → cmp x y ≡ Less → cmp y z ≡ r → is_le r ≡ true → is_le (cmp x z) ≡ true
  le_less x y z Less e k h = ap is_le (o.trans x y z e k)
  le_less x y z Equal e k h =
      let same : cmp x z ≡ Less = o.antisymm x z ∙ ap ordering_reverse (sym (o.congr y z x k)) ∙ sym (o.antisymm x y) ∙ e in
      ap is_le same
  le_less x y z Greater e k h = absurd (true≢false (sym h))

  both_le : (x y z : X) (r : Ordering) → cmp x y ≡ r → is_le r ≡ true → is_le (cmp y z) ≡ true → is_le (cmp x z) ≡ true
  both_le x y z Less e h k = le_less x y z (cmp y z) e refl k
  both_le x y z Equal e h k = le_equal x y z e k
  both_le x y z Greater e h k = absurd (true≢false (sym h))

  greater : (r : Ordering) → is_le r ≡ false → r ≡ Greater
  greater Less h = absurd (true≢false h)
  greater Equal h = absurd (true≢false h)
  greater Greater h = refl

  neither_le : (x y z : X) → is_le (cmp x y) ≡ false → is_le (cmp y z) ≡ false → is_le (cmp x z) ≡ false
  neither_le x y z h k =
      let back : cmp y x ≡ Less = o.antisymm y x ∙ ap ordering_reverse (greater (cmp x y) h) in
      let further : cmp z y ≡ Less = o.antisymm z y ∙ ap ordering_reverse (greater (cmp y z) k) in
      ap is_le (o.antisymm x z ∙ ap ordering_reverse (o.trans z y x further back))

  either-assoc : (x y z : X) (a b c : Bool) → is_le (cmp x y) ≡ a → is_le (cmp y z) ≡ b → is_le (cmp x z) ≡ c
      → either_of (is_le (cmp x (either_of (is_le (cmp y z)) y z))) x (either_of (is_le (cmp y z)) y z) ≡ either_of (is_le (cmp (either_of (is_le (cmp x y)) x y) z)) (either_of (is_le (cmp x y)) x y) z
  either-assoc x y z true true true e k m = rw (e, k) (rw (e, m) refl)
  either-assoc x y z true true false e k m = absurd (true≢false (sym (both_le x y z (cmp x y) refl e k) ∙ m))
  either-assoc x y z true false c e k m = rw (e, k) refl
  either-assoc x y z false true c e k m = rw (e, k) (rw e refl)
  either-assoc x y z false false true e k m = absurd (true≢false (sym m ∙ neither_le x y z e k))
  either-assoc x y z false false false e k m = rw (e, k) (rw m refl)

  lesser-assoc : (x y z : Option X) → lesser cmp x (lesser cmp y z) ≡ lesser cmp (lesser cmp x y) z
  lesser-assoc None y z = refl
  lesser-assoc (Some x) None z = refl
  lesser-assoc (Some x) (Some y) None = refl
  lesser-assoc (Some x) (Some y) (Some z) = ap (λ v. Some v) (either-assoc x y z (is_le (cmp x y)) (is_le (cmp y z)) (is_le (cmp x z)) refl refl refl)

  first-put : (x : X) (ys : List X) → first_of (put_in_order cmp x ys) ≡ lesser cmp (Some x) (first_of ys)
  first-put x [] = refl
  first-put x (y ∷ ys) = by (is_le (cmp x y)) refl
    where
      by : (b : Bool) → is_le (cmp x y) ≡ b → first_of (put_in_order cmp x (y ∷ ys)) ≡ Some (either_of (is_le (cmp x y)) x y)
      by true e = rw (put_in_order, e) refl
      by false e = rw (put_in_order, e) refl

  pub first-append : (xs ys : List X) → first_of (in_order cmp (xs ++ ys)) ≡ lesser cmp (first_of (in_order cmp xs)) (first_of (in_order cmp ys))
  first-append [] ys = refl
  first-append (x ∷ xs) ys =
      first-put x (in_order cmp (xs ++ ys)) ∙ ap (lesser cmp (Some x)) (first-append xs ys)
      ∙ lesser-assoc (Some x) (first_of (in_order cmp xs)) (first_of (in_order cmp ys))
      ∙ ap (λ v. lesser cmp v (first_of (in_order cmp ys))) (sym (first-put x (in_order cmp xs)))

sums : (measure : Measure) (xs ys : List Picked) → measure_sum measure (xs ++ ys) ≡ measure_sum measure xs +ℤ measure_sum measure ys
sums Count xs ys = refl
sums (Sum f) xs ys = ap sum_of (map-append (formula_number f) xs ys) ∙ sum_of-append (map (formula_number f) xs) (map (formula_number f) ys)
sums (Average f) xs ys = ap sum_of (map-append (formula_number f) xs ys) ∙ sum_of-append (map (formula_number f) xs) (map (formula_number f) ys)
sums (Least a) xs ys = refl
sums (Greatest a) xs ys = refl

bounds : (measure : Measure) (xs ys : List Picked) → measure_bound measure (xs ++ ys) ≡ merged_bound measure (measure_bound measure xs) (measure_bound measure ys)
bounds Count xs ys = refl
bounds (Sum f) xs ys = refl
bounds (Average f) xs ys = refl
bounds (Least a) xs ys =
    ap (λ vs. first_of (in_order value_cmp vs)) (map-append (λ (at : Picked). at a) xs ys) ∙ first-append value_cmp value_total (map (λ at. at a) xs) (map (λ at. at a) ys)
bounds (Greatest a) xs ys =
    ap (λ vs. first_of (in_order (flip_args value_cmp) vs)) (map-append (λ (at : Picked). at a) xs ys)
    ∙ first-append (flip_args value_cmp) (back_total value_total) (map (λ at. at a) xs) (map (λ at. at a) ys)

pub parts_merge : PartsMerge
parts_merge measure xs ys = λ i. record { count = length-append xs ys i; sum = sums measure xs ys i; bound = bounds measure xs ys i }

pub all_parts_merge : (measures : List Measure) (xs ys : List Picked) → parts_over measures (xs ++ ys) ≡ merged_parts measures (parts_over measures xs) (parts_over measures ys)
all_parts_merge [] xs ys = refl
all_parts_merge (m ∷ ms) xs ys = λ i. parts_merge m xs ys i ∷ all_parts_merge ms xs ys i

none_part : (measure : Measure) → part_over measure [] ≡ no_part
none_part Count = refl
none_part (Sum f) = refl
none_part (Average f) = refl
none_part (Least a) = refl
none_part (Greatest a) = refl

pub none_parts : (measures : List Measure) → parts_over measures [] ≡ no_parts measures
none_parts [] = refl
none_parts (m ∷ ms) = λ i. none_part m i ∷ none_parts ms i
