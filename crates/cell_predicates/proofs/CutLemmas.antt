-- Where values stand among rising values.
use Rattle.std.proofs.Common.{◌≡◌, ℕ, zero, suc, ◌+◌, ◌<◌, ◌==◌, Bool, true, false, List, [], ◌∷◌, length, get_or, cond, nat_lt, Option, Some, None, slice_get, refl, sym, ap, subst, ◌∙◌, arith, inl, inr, true≢false}
use Rattle.std.specs.Ordering.{is_eq, is_lt}
use Rattle.std.proofs.lemmas.Bool.{and_parts, eqb-true, eq-eqb, lt-ltb, le-ltb, cases_lt, false_from_ne_true}
use Rattle.std.proofs.lemmas.Cmp.{tied_itself}
use Rattle.std.proofs.lemmas.Option.{slice_get-get_or}
use Rattle.std.proofs.lemmas.List.Sums.{sum_by-cons, count_by-le-length}
use Rattle.blink_lists.specs.Lists.{rises}
use Rattle.blink_lists.proofs.BoolLemmas.{one_fact}
use Rattle.blink_lists.proofs.OrderLemmas.{less_is, equal_is}
use Rattle.blink_lists.proofs.SliceLemmas.{got}
use Rattle.blink_base.specs.declared.value.Value.{Value}
use Rattle.blink_base.specs.Values.{value_cmp, same_value}
use Rattle.blink_base.specs.ValueOrder.{value_total, value_same}
use Rattle.order_codes.specs.declared.place.CodePlace.{CodePlace}
use Rattle.order_codes.specs.Dictionary.{Classes, below, class_at, decoded}
use Rattle.order_codes.proofs.ValueRankLemmas.{rises_tail}
use Rattle.cell_predicates.specs.Cuts.{IsCut, IsCodeOf}

-- where the first isn't below a value, none is
module _ (y : Value) where
  none_below : (x : Value) (xs : List Value) → rises value_cmp (x ∷ xs) ≡ true → is_lt (value_cmp x y) ≡ false → below xs y ≡ 0
  none_below x [] up not_less = refl
  none_below x (z ∷ xs) up not_less =
      let parts = and_parts (is_lt (value_cmp x z)) (rises value_cmp (z ∷ xs)) up in
      let next : is_lt (value_cmp z y) ≡ false
      = false_from_ne_true (is_lt (value_cmp z y)) (λ yes. true≢false (sym (ap is_lt (value_total.trans x z y (less_is (value_cmp x z) parts.0) (less_is (value_cmp z y) yes))) ∙ not_less)) in
      let rest = none_below z xs parts.1 next in
      sum_by-cons (λ v. cond (is_lt (value_cmp v y)) 1 0) z xs ∙ rw (next, rest) refl

  first_less : (xs : List Value) (d : Value) (x : Value) (j : ℕ) → is_lt (value_cmp x y) ≡ true → ((i : ℕ) → i < length xs → is_lt (value_cmp (get_or xs i d) y) ≡ nat_lt i (below xs y)) → j < suc (length xs)
      → is_lt (value_cmp (get_or (x ∷ xs) j d) y) ≡ nat_lt j (1 + below xs y)
  first_less xs d x zero e rest lt = e ∙ sym (lt-ltb 0 (1 + below xs y) (omega arith))
  first_less xs d x (suc j) e rest lt =
      rest j (omega (arith, lt))
      ∙ elim (cases_lt j (below xs y)) [
        | inl under ↦ lt-ltb j (below xs y) under ∙ sym (lt-ltb (suc j) (1 + below xs y) (omega (arith, under)))
        | inr past ↦ le-ltb j (below xs y) past ∙ sym (le-ltb (suc j) (1 + below xs y) (omega (arith, past)))
      ]

  first_not : (xs : List Value) (d : Value) (x : Value) (j : ℕ) → is_lt (value_cmp x y) ≡ false → below xs y ≡ 0 → ((i : ℕ) → i < length xs → is_lt (value_cmp (get_or xs i d) y) ≡ nat_lt i (below xs y)) → j < suc (length xs)
      → is_lt (value_cmp (get_or (x ∷ xs) j d) y) ≡ nat_lt j 0
  first_not xs d x zero e none rest lt = e ∙ sym (le-ltb 0 0 (omega arith))
  first_not xs d x (suc j) e none rest lt = rest j (omega (arith, lt)) ∙ le-ltb j (below xs y) (omega (arith, none)) ∙ sym (le-ltb (suc j) 0 (omega arith))

  below_at : (xs : List Value) (k : ℕ) (d : Value) → rises value_cmp xs ≡ true → k < length xs → is_lt (value_cmp (get_or xs k d) y) ≡ nat_lt k (below xs y)
  below_at [] k d up lt = absurd (omega (arith, lt))
  below_at (x ∷ xs) k d up lt = by (is_lt (value_cmp x y)) refl (λ j l. below_at xs j d (rises_tail x xs up) l)
    where
      split : below (x ∷ xs) y ≡ cond (is_lt (value_cmp x y)) 1 0 + below xs y
      split = sum_by-cons (λ v. cond (is_lt (value_cmp v y)) 1 0) x xs

      by : (b : Bool) → is_lt (value_cmp x y) ≡ b → ((j : ℕ) → j < length xs → is_lt (value_cmp (get_or xs j d) y) ≡ nat_lt j (below xs y)) → is_lt (value_cmp (get_or (x ∷ xs) k d) y) ≡ nat_lt k (below (x ∷ xs) y)
      by true e rest = first_less xs d x k e rest lt ∙ ap (nat_lt k) (sym (split ∙ ap (λ b. cond b 1 0 + below xs y) e))
      by false e rest =
          let none = none_below x xs up e in
          let all : below (x ∷ xs) y ≡ 0 = split ∙ (λ i. cond (e i) 1 0 + none i) in
          first_not xs d x k e none rest lt ∙ ap (nat_lt k) (sym all)

  pub lesser_cut : (values : List Value) → rises value_cmp values ≡ true → IsCut values (λ v. is_lt (value_cmp v y)) (below values y)
  lesser_cut values up = (count_by-le-length (λ v. is_lt (value_cmp v y)) values, λ k d lt. below_at values k d up lt)

-- the same cut by a number that is equal to it
pub cut_by : (values : List Value) (test : Value → Bool) (a b : ℕ) → a ≡ b → IsCut values test b → IsCut values test a
cut_by values test a b e cut = subst (IsCut values test) (sym e) cut

-- ---- the code of a value in a class

module _ (classes : Classes) (class : ℕ) (y : Value) (result : Option CodePlace) (there : (k code : ℕ) → decoded classes k code ≡ Some y → result ≡ Some (record { class = k; code = code })) where
  abbrev values : List Value
  values = class_at classes class

  found_there : (k : ℕ) (d : Value) → k < length values → same_value (get_or values k d) y ≡ true → result ≡ Some (record { class = class; code = k })
  found_there k d lt same =
      let is : get_or values k d ≡ y = value_same (get_or values k d) y (equal_is (value_cmp (get_or values k d) y) same) in
      there class k (slice_get-get_or values k d lt ∙ ap Some is)

  pub found_code : (place : CodePlace) → result ≡ Some place → place.class ≡ class → decoded classes place.class place.code ≡ Some y → IsCodeOf values y (Some place.code)
  found_code place is one back k d lt =
      one_fact (same_value (get_or values k d) y) (k == place.code)
      (λ same. let e : Some (record { class = class; code = k }) ≡ Some place = sym (found_there k d lt same) ∙ is in eq-eqb k place.code (code_same (record { class = class; code = k }) place e))
      (λ same.
      let e : k ≡ place.code = eqb-true k place.code same in
      let at : slice_get values place.code ≡ Some y = ap (λ c. slice_get (class_at classes c) place.code) (sym one) ∙ back in
      let v : get_or values k d ≡ y = ap (λ c. get_or values c d) e ∙ got values place.code y d at in
      rw v (ap is_eq (tied_itself value_total y)))
    where
      code_same : (a b : CodePlace) → Some a ≡ Some b → a.code ≡ b.code
      code_same a b e = let s : a ≡ b = cc in ap (λ (p : CodePlace). p.code) s

  pub no_code : ((place : CodePlace) → result ≡ Some place → place.class ≡ class → ⊥) → IsCodeOf values y None
  no_code none k d lt = false_from_ne_true (same_value (get_or values k d) y) (λ same. none (record { class = class; code = k }) (found_there k d lt same) refl)
