-- Groups stay within their bounds.
use Rattle.std.proofs.Common.{◌≡◌, ◌≤◌, ◌+◌, ◌*◌, ◌^◌, ◌==◌, ℕ, ℤ, suc, ◌+ℤ◌, Bool, true, false, List, [], ◌∷◌, map, length, refl, ap, arith}
use Rattle.std.specs.Prelude.{nat_abs, nat_le}
use Rattle.std.specs.List.{list_all}
use Rattle.std.proofs.lemmas.Bool.{leb-true, le-leb, eqb-true, eq-eqb}
use Rattle.std.proofs.lemmas.List.Elements.{All-nil, All-cons}
use Rattle.blink_base.specs.Lines.{sum_of}
use Rattle.blink_base.specs.Values.{same_row, number_in}
use Rattle.blink_lists.proofs.GroupLemmas.{both, and_both}
use Rattle.late_decode.specs.declared.plan.Formula.{Formula}
use Rattle.late_decode.specs.declared.plan.Measure.{Measure}
use Rattle.late_decode.specs.declared.plan.Measure.TheVariants.{Count, Sum, Average, Least, Greatest}
use Rattle.late_decode.specs.declared.plan.Part.{Part}
use Rattle.late_decode.specs.declared.plan.Pick.{Pick}
use Rattle.late_decode.specs.Parts.{Picked, formula_number, merged_part, merged_parts, no_parts, no_part, part_over, parts_over}
use Rattle.late_decode.specs.Groups.{Grouped, added}
use Rattle.late_decode.specs.Bounds.{is_bounded, are_parts, are_groups}
use Rattle.late_decode.specs.BoundLaws.{AddedAreGroups, AddedAreCoded, RowsAreParts}
use Rattle.late_decode.proofs.SumLemmas.{abs-add, formulas_bounded, sums_bounded}

pub sum_bounded : (size a b : ℕ) (x y : ℤ) → nat_le (nat_abs x) (size * a) ≡ true → nat_le (nat_abs y) (size * b) ≡ true → nat_le (nat_abs (x +ℤ y)) (size * (a + b)) ≡ true
sum_bounded size a b x y h k =
    let f : nat_abs x ≤ size * a = leb-true (nat_abs x) (size * a) h in
    let g : nat_abs y ≤ size * b = leb-true (nat_abs y) (size * b) k in
    let s = abs-add x y in
    let split : size * (a + b) ≡ size * a + size * b = grind arith in
    le-leb (nat_abs (x +ℤ y)) (size * (a + b)) (omega (arith, f, g, s, split))

pub parts_of : (measures : List Measure) (parts : List Part) → are_parts measures parts ≡ true → (length parts ≡ length measures) × (list_all is_bounded parts ≡ true)
parts_of measures parts h =
    let b = both (length parts == length measures) (list_all is_bounded parts) h in
    (eqb-true (length parts) (length measures) b.0, b.1)

pub are_all : (measures : List Measure) (parts : List Part) → length parts ≡ length measures → list_all is_bounded parts ≡ true → are_parts measures parts ≡ true
are_all measures parts e h = and_both (length parts == length measures) (list_all is_bounded parts) (eq-eqb (length parts) (length measures) e) h

merged_all : (measures : List Measure) (xs ys : List Part) → length xs ≡ length measures → length ys ≡ length measures → list_all is_bounded xs ≡ true → list_all is_bounded ys ≡ true
    → (length (merged_parts measures xs ys) ≡ length measures) × (list_all is_bounded (merged_parts measures xs ys) ≡ true)
merged_all [] xs ys e f h k = (refl, refl)
merged_all (m ∷ ms) [] ys e f h k = absurd (omega (arith, e))
merged_all (m ∷ ms) (x ∷ xs) [] e f h k = absurd (omega (arith, f))
merged_all (m ∷ ms) (x ∷ xs) (y ∷ ys) e f h k =
    let c = both (is_bounded x) (list_all is_bounded xs) h in
    let d = both (is_bounded y) (list_all is_bounded ys) k in
    let more = merged_all ms xs ys (omega (arith, e)) (omega (arith, f)) c.1 d.1 in
    (ap suc more.0, and_both (is_bounded (merged_part m x y)) (list_all is_bounded (merged_parts ms xs ys)) (sum_bounded (10 ^ 30) x.count y.count x.sum y.sum c.0 d.0) more.1)

parts_merged : (measures : List Measure) (xs ys : List Part) → are_parts measures xs ≡ true → are_parts measures ys ≡ true → are_parts measures (merged_parts measures xs ys) ≡ true
parts_merged measures xs ys h k =
    let a = parts_of measures xs h in
    let b = parts_of measures ys k in
    let all = merged_all measures xs ys a.0 b.0 a.1 b.1 in
    are_all measures (merged_parts measures xs ys) all.0 all.1

none_all : (measures : List Measure) → (length (no_parts measures) ≡ length measures) × (list_all is_bounded (no_parts measures) ≡ true)
none_all [] = (refl, refl)
none_all (m ∷ ms) = let more = none_all ms in (ap suc more.0, and_both (is_bounded no_part) (list_all is_bounded (no_parts ms)) refl more.1)

pub none_bounded : (measures : List Measure) → are_parts measures (no_parts measures) ≡ true
none_bounded measures = let all = none_all measures in are_all measures (no_parts measures) all.0 all.1

module _ {K : Type 0} (eq : K → K → Bool) (measures : List Measure) (key : K) (parts : List Part) (good : are_parts measures parts ≡ true) where
  pub added_groups : (groups : Grouped K) → are_groups measures groups ≡ true → are_groups measures (added eq measures key parts groups) ≡ true
  added_groups [] h = and_both (are_parts measures (merged_parts measures (no_parts measures) parts)) true (parts_merged measures (no_parts measures) parts (none_bounded measures) good) refl
  added_groups (group ∷ groups) h =
      let b = both (are_parts measures group.1) (are_groups measures groups) h in
      by (eq group.0 key) refl b.0 b.1 (added_groups groups b.1)
    where
      by : (c : Bool) → eq group.0 key ≡ c → are_parts measures group.1 ≡ true → are_groups measures groups ≡ true → are_groups measures (added eq measures key parts groups) ≡ true
          → are_groups measures (added eq measures key parts (group ∷ groups)) ≡ true
      by true e p g r = rw (added, e) (and_both (are_parts measures (merged_parts measures group.1 parts)) (are_groups measures groups) (parts_merged measures group.1 parts p good) g)
      by false e p g r = rw (added, e) (and_both (are_parts measures group.1) (are_groups measures (added eq measures key parts groups)) p r)

pub added_are_groups : AddedAreGroups
added_are_groups measures key parts groups p g = added_groups same_row measures key parts p groups g

pub added_are_coded : AddedAreCoded
added_are_coded same measures key parts groups p g = added_groups same measures key parts p groups g

module _ (at : Picked) (good : (p : Pick) → nat_abs (number_in (at p)) ≤ 10 ^ 15) where
  pub formula_within : (f : Formula) → nat_le (nat_abs (sum_of (map (formula_number f) (at ∷ [])))) (10 ^ 30 * 1) ≡ true
  formula_within f =
      let one : nat_abs (formula_number f at) ≤ 10 ^ 30 = formulas_bounded f at good in
      let all : nat_abs (sum_of (formula_number f at ∷ [])) ≤ 10 ^ 30 * 1 = sums_bounded (10 ^ 30) (formula_number f at ∷ []) (All-cons (λ m. nat_abs m ≤ 10 ^ 30) (formula_number f at) [] one (All-nil (λ m. nat_abs m ≤ 10 ^ 30))) in
      le-leb (nat_abs (sum_of (formula_number f at ∷ []))) (10 ^ 30 * 1) all

  part_within : (m : Measure) → is_bounded (part_over m (at ∷ [])) ≡ true
  part_within Count = refl
  part_within (Sum f) = formula_within f
  part_within (Average f) = formula_within f
  part_within (Least p) = refl
  part_within (Greatest p) = refl

  parts_all : (measures : List Measure) → (length (parts_over measures (at ∷ [])) ≡ length measures) × (list_all is_bounded (parts_over measures (at ∷ [])) ≡ true)
  parts_all [] = (refl, refl)
  parts_all (m ∷ ms) = let more = parts_all ms in (ap suc more.0, and_both (is_bounded (part_over m (at ∷ []))) (list_all is_bounded (parts_over ms (at ∷ []))) (part_within m) more.1)

pub rows_are_parts : RowsAreParts
rows_are_parts measures at good = let all = parts_all at good measures in are_all measures (parts_over measures (at ∷ [])) all.0 all.1
