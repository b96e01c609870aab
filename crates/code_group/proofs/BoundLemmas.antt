-- Groups by code stay within their bounds.
use Rattle.std.proofs.Common.{◌≡◌, ◌≤◌, ◌<◌, ◌+◌, ◌*◌, ◌^◌, ◌==◌, ◌+ℤ◌, ◌-ℤ◌, ◌*ℤ◌, ℕ, pos, max, fold, Bool, true, false, List, [], ◌∷◌, map, length, refl, sym, ap, ◌∙◌, arith, true≢false}
use Rattle.std.specs.Prelude.{nat_abs, nat_le}
use Rattle.std.specs.List.{list_all}
use Rattle.std.proofs.lemmas.Bool.{ltb-true, eq-eqb}
use Rattle.blink_base.specs.declared.value.Value.{Value}
use Rattle.blink_base.specs.declared.value.Value.TheVariants.{Int, Text, Date}
use Rattle.blink_base.specs.Lines.{sum_of}
use Rattle.blink_base.specs.Values.{Row, number_in, same_row}
use Rattle.blink_lists.proofs.GroupLemmas.{both, and_both}
use Rattle.late_decode.specs.declared.plan.Pick.{Pick}
use Rattle.late_decode.specs.declared.plan.Formula.{Formula}
use Rattle.late_decode.specs.declared.plan.Formula.TheVariants.{One, Times, Plus, Minus}
use Rattle.late_decode.specs.declared.plan.Measure.{Measure}
use Rattle.late_decode.specs.declared.plan.Measure.TheVariants.{Count, Sum, Average, Least, Greatest}
use Rattle.late_decode.specs.declared.plan.Part.{Part}
use Rattle.late_decode.specs.declared.plan.GroupPlan.{GroupPlan}
use Rattle.late_decode.specs.BoundLaws.{AddedAreGroups, AddedAreCoded, RowsAreParts}
use Rattle.late_decode.specs.Bounds.{is_bounded, are_parts, are_groups, combinations_of}
use Rattle.late_decode.specs.Groups.{Grouped, added}
use Rattle.late_decode.specs.Parts.{Picked, either_of, formula_number, measure_sum, part_over, parts_over}
use Rattle.code_group.specs.Plans.{formula_picks, is_good_number, measure_sums, are_of_plan}
use Rattle.code_group.proofs.RowPartLemmas.{length-map}

-- ---- the parts of a row

-- the picked values, and 0 in place of what is no good whole number
abbrev good-at : Picked → Picked
good-at at p = either_of (is_good_number (at p)) (at p) (Int (pos 0))

at-most : (v : Value) (b : Bool) → is_good_number v ≡ b → nat_abs (number_in (either_of b v (Int (pos 0)))) ≤ 10 ^ 15
at-most (Int n) true e = let l : nat_abs n < 10 ^ 15 = ltb-true (nat_abs n) (10 ^ 15) e in omega (arith, l)
at-most (Text t) true e = absurd (true≢false (sym e))
at-most (Date d) true e = absurd (true≢false (sym e))
at-most v false e = omega arith

good-same : (at : Picked) (p : Pick) → is_good_number (at p) ≡ true → good-at at p ≡ at p
good-same at p e = rw e refl

two-same : (at : Picked) (a b : Pick) → list_all (λ p. is_good_number (at p)) (a ∷ b ∷ []) ≡ true → (good-at at a ≡ at a) × (good-at at b ≡ at b)
two-same at a b h =
    let one = both (is_good_number (at a)) (list_all (λ p. is_good_number (at p)) (b ∷ [])) h in
    let two = both (is_good_number (at b)) true one.1 in
    (good-same at a one.0, good-same at b two.0)

formula-same : (at : Picked) (f : Formula) → list_all (λ p. is_good_number (at p)) (formula_picks f) ≡ true → formula_number f (good-at at) ≡ formula_number f at
formula-same at (One a) h = let e = good-same at a (both (is_good_number (at a)) true h).0 in λ i. number_in (e i)
formula-same at (Times a b) h = let e = two-same at a b h in λ i. number_in (e.0 i) *ℤ number_in (e.1 i)
formula-same at (Plus a b) h = let e = two-same at a b h in λ i. number_in (e.0 i) +ℤ number_in (e.1 i)
formula-same at (Minus a b) h = let e = two-same at a b h in λ i. number_in (e.0 i) -ℤ number_in (e.1 i)

sum-same : (at : Picked) (m : Measure) → measure_sums at m ≡ true → measure_sum m (good-at at ∷ []) ≡ measure_sum m (at ∷ [])
sum-same at Count h = refl
sum-same at (Sum f) h = ap (λ n. sum_of (n ∷ [])) (formula-same at f h)
sum-same at (Average f) h = ap (λ n. sum_of (n ∷ [])) (formula-same at f h)
sum-same at (Least p) h = refl
sum-same at (Greatest p) h = refl

bounds-same : (at : Picked) (ms : List Measure) → list_all (measure_sums at) ms ≡ true → list_all is_bounded (parts_over ms (good-at at ∷ [])) ≡ true → list_all is_bounded (parts_over ms (at ∷ [])) ≡ true
bounds-same at [] h k = refl
bounds-same at (m ∷ ms) h k =
    let b = both (measure_sums at m) (list_all (measure_sums at) ms) h in
    let d = both (is_bounded (part_over m (good-at at ∷ []))) (list_all is_bounded (parts_over ms (good-at at ∷ []))) k in
    and_both (is_bounded (part_over m (at ∷ []))) (list_all is_bounded (parts_over ms (at ∷ [])))
    (ap (λ s. nat_le (nat_abs s) (10 ^ 30 * 1)) (sym (sum-same at m b.0)) ∙ d.0) (bounds-same at ms b.1 d.1)

-- the parts of a row are bounded, where all that is summed of it is a good whole number
pub row-parts : RowsAreParts → (ms : List Measure) (at : Picked) → list_all (measure_sums at) ms ≡ true → are_parts ms (parts_over ms (at ∷ [])) ≡ true
row-parts law ms at h =
    let all = law ms (good-at at) (λ p. at-most (at p) (is_good_number (at p)) refl) in
    let b = both (length (parts_over ms (good-at at ∷ [])) == length ms) (list_all is_bounded (parts_over ms (good-at at ∷ []))) all in
    and_both (length (parts_over ms (at ∷ [])) == length ms) (list_all is_bounded (parts_over ms (at ∷ [])))
    (eq-eqb (length (parts_over ms (at ∷ []))) (length ms) (length-map (λ m. part_over m (at ∷ [])) ms)) (bounds-same at ms h b.1)

-- they are of one combination
pub row-combination : (ms : List Measure) (at : Picked) → combinations_of (parts_over ms (at ∷ [])) ≤ 1
row-combination ms at = by ms 0 (omega arith)
  where
    by : (ms : List Measure) (acc : ℕ) → acc ≤ 1 → fold max acc (map (λ part. part.count) (parts_over ms (at ∷ []))) ≤ 1
    by [] acc le = le
    by (m ∷ ms) acc le = by ms (max acc 1) (omega (arith, le))

-- ---- groups where parts are added

module _ {K : Type 0} (eq : K → K → Bool) (measures : List Measure) (key : K) (parts : List Part) where
  -- keys that pass a test
  pub added-pass : (pass : K → Bool) (groups : Grouped K) → pass key ≡ true → list_all (λ group. pass group.0) groups ≡ true → list_all (λ group. pass group.0) (added eq measures key parts groups) ≡ true
  added-pass pass [] p h = and_both (pass key) true p refl
  added-pass pass (group ∷ groups) p h =
      let b = both (pass group.0) (list_all (λ g. pass g.0) groups) h in
      by (eq group.0 key) refl b.0 b.1 (added-pass pass groups p b.1)
    where
      by : (c : Bool) → eq group.0 key ≡ c → pass group.0 ≡ true → list_all (λ (g : K × List Part). pass g.0) groups ≡ true
          → list_all (λ (g : K × List Part). pass g.0) (added eq measures key parts groups) ≡ true → list_all (λ (g : K × List Part). pass g.0) (added eq measures key parts (group ∷ groups)) ≡ true
      by true e q g r = rw (added, e) (and_both (pass group.0) (list_all (λ (g : K × List Part). pass g.0) groups) q g)
      by false e q g r = rw (added, e) (and_both (pass group.0) (list_all (λ (g : K × List Part). pass g.0) (added eq measures key parts groups)) q r)

  -- at most one group is new
  pub added-new : (groups : Grouped K) → length (added eq measures key parts groups) ≤ length groups + 1
  added-new [] = omega arith
  added-new (group ∷ groups) = by (eq group.0 key) refl (added-new groups)
    where
      by : (c : Bool) → eq group.0 key ≡ c → length (added eq measures key parts groups) ≤ length groups + 1 → length (added eq measures key parts (group ∷ groups)) ≤ length (group ∷ groups) + 1
      by true e r = rw (added, e) (omega arith)
      by false e r = rw (added, e) (omega (arith, r))

-- groups by tuples stay of their plan
pub coded-of-plan : AddedAreCoded → (same : List ℕ → List ℕ → Bool) (plan : GroupPlan) (key : List ℕ) (parts : List Part) (groups : Grouped (List ℕ)) → are_parts plan.measures parts ≡ true
    → length key ≡ length plan.keys → are_of_plan plan groups ≡ true → are_of_plan plan (added same plan.measures key parts groups) ≡ true
coded-of-plan law same plan key parts groups good long h =
    let b = both (are_groups plan.measures groups) (list_all (λ (group : List ℕ × List Part). length group.0 == length plan.keys) groups) h in
    let new = added same plan.measures key parts groups in
    and_both (are_groups plan.measures new) (list_all (λ (group : List ℕ × List Part). length group.0 == length plan.keys) new)
    (law same plan.measures key parts groups good b.0)
    (added-pass same plan.measures key parts (λ k. length k == length plan.keys) groups (eq-eqb (length key) (length plan.keys) long) b.1)

-- and so do groups by values
pub values-of-plan : AddedAreGroups → (plan : GroupPlan) (key : Row) (parts : List Part) (groups : Grouped Row) → are_parts plan.measures parts ≡ true
    → length key ≡ length plan.keys → are_of_plan plan groups ≡ true → are_of_plan plan (added same_row plan.measures key parts groups) ≡ true
values-of-plan law plan key parts groups good long h =
    let b = both (are_groups plan.measures groups) (list_all (λ (group : Row × List Part). length group.0 == length plan.keys) groups) h in
    let new = added same_row plan.measures key parts groups in
    and_both (are_groups plan.measures new) (list_all (λ (group : Row × List Part). length group.0 == length plan.keys) new)
    (law plan.measures key parts groups good b.0)
    (added-pass same_row plan.measures key parts (λ k. length k == length plan.keys) groups (eq-eqb (length key) (length plan.keys) long) b.1)
