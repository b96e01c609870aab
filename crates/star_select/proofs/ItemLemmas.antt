-- What is measured for an item over picked values is its value over the combinations that these are of.
use Rattle.std.proofs.Common.{◌≡◌, ℤ, pos, ◌+ℤ◌, ◌-ℤ◌, ◌*ℤ◌, Bool, true, List, [], ◌∷◌, map, length, refl, sym, ap, ◌∙◌, true≢false}
use Rattle.std.specs.Prelude.{int_div}
use Rattle.std.specs.List.{list_all}
use Rattle.std.proofs.lemmas.List.{length-map}
use Rattle.blink_base.specs.declared.answer.Field.TheVariants as field
use Rattle.blink_base.specs.Values.{number_in}
use Rattle.blink_base.specs.Lines.{sum_of, sum_field, average_field, least_field, greatest_field}
use Rattle.blink_lists.proofs.GroupLemmas.{both}
use Rattle.star_meaning.specs.Names.{Combination}
use Rattle.star_bind.specs.declared.query.ColumnRef.{ColumnRef}
use Rattle.star_bind.specs.declared.query.BoundExpr.{BoundExpr}
use Rattle.star_bind.specs.declared.query.BoundExpr.TheVariants.{One, Times, Plus, Minus}
use Rattle.star_bind.specs.declared.query.BoundItem.{BoundItem}
use Rattle.star_bind.specs.declared.query.BoundItem.TheVariants.{Column, Count, Sum, Average, Least, Greatest}
use Rattle.star_bind.specs.declared.query.Query.{Query}
use Rattle.star_bind.specs.BoundAnswer.{ref_value, bound_number, bound_value, is_total}
use Rattle.late_decode.specs.GroupLines.{number_over, measure_field}
use Rattle.late_decode.specs.Parts.{Picked, formula_number, part_over}
use Rattle.star_select.specs.Picks.{expr_refs, item_refs, pick_of}
use Rattle.star_select.specs.QueryPlan.{formula_of, measure_of}

agree : {X Y Z V : Type 0} (f : Y → V) (g : X → Y) (h : Z → V) (k : X → Z) → ((x : X) → f (g x) ≡ h (k x)) → (xs : List X) → map f (map g xs) ≡ map h (map k xs)
agree f g h k same [] = refl
agree f g h k same (x ∷ xs) = λ i. same x i ∷ agree f g h k same xs i

sum-over : (ns : List ℤ) → number_over (length ns) (sum_of ns) ≡ sum_field ns
sum-over [] = refl
sum-over (n ∷ ns) = refl

average-over : (ns : List ℤ) → number_over (length ns) (int_div (sum_of ns) (pos (length ns))) ≡ average_field ns
average-over [] = refl
average-over (n ∷ ns) = refl

-- by columns whose picks are their values
module _ {X : Type 0} (query : Query) (combination : X → Combination) (picked : X → Picked) (named : ColumnRef → Bool)
    (value-is : (r : ColumnRef) → named r ≡ true → (x : X) → picked x (pick_of query r) ≡ ref_value r (combination x)) where
  one-named : (r : ColumnRef) → list_all named (r ∷ []) ≡ true → named r ≡ true
  one-named r h = (both (named r) true h).0

  number-is : (e : BoundExpr) → list_all named (expr_refs e) ≡ true → (x : X) → formula_number (formula_of query e) (picked x) ≡ bound_number e (combination x)
  number-is (One a) h x = ap number_in (value-is a (one-named a h) x)
  number-is (Times a b) h x = let k = both (named a) (list_all named (b ∷ [])) h in λ i. number_in (value-is a k.0 x i) *ℤ number_in (value-is b (one-named b k.1) x i)
  number-is (Plus a b) h x = let k = both (named a) (list_all named (b ∷ [])) h in λ i. number_in (value-is a k.0 x i) +ℤ number_in (value-is b (one-named b k.1) x i)
  number-is (Minus a b) h x = let k = both (named a) (list_all named (b ∷ [])) h in λ i. number_in (value-is a k.0 x i) -ℤ number_in (value-is b (one-named b k.1) x i)

  -- an aggregate is the field of its measure
  pub measured : (i : BoundItem) → is_total i ≡ true → list_all named (item_refs i) ≡ true → (xs : List X)
      → measure_field (measure_of query i) (part_over (measure_of query i) (map picked xs)) ≡ bound_value i (map combination xs)
  measured (Column r) a h xs = absurd (true≢false (sym a))
  measured Count a h xs = ap (λ n. field.Number (pos n)) (length-map xs picked ∙ sym (length-map xs combination))
  measured (Sum e) a h xs =
      let numbers : List ℤ = map (formula_number (formula_of query e)) (map picked xs) in
      ap (λ n. number_over n (sum_of numbers)) (sym (length-map (map picked xs) (formula_number (formula_of query e))))
      ∙ sum-over numbers ∙ ap sum_field (agree (formula_number (formula_of query e)) picked (bound_number e) combination (number-is e h) xs)
  measured (Average e) a h xs =
      let numbers : List ℤ = map (formula_number (formula_of query e)) (map picked xs) in
      ap (λ n. number_over n (int_div (sum_of numbers) (pos n))) (sym (length-map (map picked xs) (formula_number (formula_of query e))))
      ∙ average-over numbers ∙ ap average_field (agree (formula_number (formula_of query e)) picked (bound_number e) combination (number-is e h) xs)
  measured (Least r) a h xs = ap least_field (agree (λ (v : Picked). v (pick_of query r)) picked (ref_value r) combination (value-is r (one-named r h)) xs)
  measured (Greatest r) a h xs = ap greatest_field (agree (λ (v : Picked). v (pick_of query r)) picked (ref_value r) combination (value-is r (one-named r h)) xs)
