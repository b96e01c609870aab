-- What holds of the columns that a query names holds of the picks of its plan.
use Rattle.std.proofs.Common.{◌≡◌, Bool, true, false, not, ◌&&◌, ◌||◌, List, [], ◌∷◌, map, refl, sym, ◌∙◌, true≢false}
use Rattle.std.specs.List.{list_any, list_all}
use Rattle.std.proofs.lemmas.List.Folds.{list_all-map}
use Rattle.blink_lists.proofs.BoolLemmas.{all_both}
use Rattle.blink_lists.proofs.GroupLemmas.{both, and_both, all-imply, neither}
use Rattle.star_bind.specs.declared.query.ColumnRef.{ColumnRef}
use Rattle.star_bind.specs.declared.query.BoundExpr.{BoundExpr}
use Rattle.star_bind.specs.declared.query.BoundExpr.TheVariants.{One, Times, Plus, Minus}
use Rattle.star_bind.specs.declared.query.BoundItem.{BoundItem}
use Rattle.star_bind.specs.declared.query.BoundItem.TheVariants.{Column, Count, Sum, Average, Least, Greatest}
use Rattle.star_bind.specs.declared.query.Query.{Query}
use Rattle.star_bind.specs.BoundAnswer.{is_total}
use Rattle.code_group.specs.Plans.{formula_picks, measure_picks, summed_picks}
use Rattle.late_decode.specs.declared.plan.Pick.{Pick}
use Rattle.late_decode.specs.declared.plan.Measure.{Measure}
use Rattle.late_decode.specs.declared.plan.Measure.TheVariants as measure
use Rattle.star_select.specs.Picks.{expr_refs, item_refs, pick_of}
use Rattle.star_select.specs.QueryPlan.{has_total, is_plain, formula_of, measure_of, item_pick, keys_if, measures_if, plan_of}
use Rattle.star_select.proofs.QueryLineLemmas.{none-total}

-- the columns that an item sums
abbrev pub summed_refs : BoundItem → List ColumnRef
summed_refs (Column r) = []
summed_refs Count = []
summed_refs (Sum e) = expr_refs e
summed_refs (Average e) = expr_refs e
summed_refs (Least r) = []
summed_refs (Greatest r) = []

module _ (query : Query) (named : ColumnRef → Bool) (p : Pick → Bool) (picks : (r : ColumnRef) → named r ≡ true → p (pick_of query r) ≡ true) where
  one-pick : (r : ColumnRef) → list_all named (r ∷ []) ≡ true → list_all p (pick_of query r ∷ []) ≡ true
  one-pick r h = λ i. picks r (both (named r) true h).0 i && true

  two-picks : (a b : ColumnRef) → list_all named (a ∷ b ∷ []) ≡ true → list_all p (pick_of query a ∷ pick_of query b ∷ []) ≡ true
  two-picks a b h = let k = both (named a) (list_all named (b ∷ [])) h in λ i. picks a k.0 i && one-pick b k.1 i

  formula-picks : (e : BoundExpr) → list_all named (expr_refs e) ≡ true → list_all p (formula_picks (formula_of query e)) ≡ true
  formula-picks (One a) h = one-pick a h
  formula-picks (Times a b) h = two-picks a b h
  formula-picks (Plus a b) h = two-picks a b h
  formula-picks (Minus a b) h = two-picks a b h

  -- what is measured
  measure-picks : (i : BoundItem) → list_all named (item_refs i) ≡ true → list_all p (measure_picks (measure_of query i)) ≡ true
  measure-picks (Column r) h = refl
  measure-picks Count h = refl
  measure-picks (Sum e) h = formula-picks e h
  measure-picks (Average e) h = formula-picks e h
  measure-picks (Least r) h = one-pick r h
  measure-picks (Greatest r) h = one-pick r h

  -- what is summed
  sum-picks : (i : BoundItem) → list_all named (summed_refs i) ≡ true → list_all p (summed_picks (measure_of query i)) ≡ true
  sum-picks (Column r) h = refl
  sum-picks Count h = refl
  sum-picks (Sum e) h = formula-picks e h
  sum-picks (Average e) h = formula-picks e h
  sum-picks (Least r) h = refl
  sum-picks (Greatest r) h = refl

  bare-pick : (i : BoundItem) → (list_all named (item_refs i) && not (is_total i)) ≡ true → p (item_pick query i) ≡ true
  bare-pick i h = let b = both (list_all named (item_refs i)) (not (is_total i)) h in by i b.0 b.1
    where
      by : (j : BoundItem) → list_all named (item_refs j) ≡ true → not (is_total j) ≡ true → p (item_pick query j) ≡ true
      by (Column r) k n = picks r (both (named r) true k).0
      by Count k n = absurd (true≢false (sym n))
      by (Sum e) k n = absurd (true≢false (sym n))
      by (Average e) k n = absurd (true≢false (sym n))
      by (Least r) k n = absurd (true≢false (sym n))
      by (Greatest r) k n = absurd (true≢false (sym n))

  -- measures of which all are of items, or the count
  measures-so : (q : Measure → Bool) (items : BoundItem → Bool) → q measure.Count ≡ true → ((i : BoundItem) → items i ≡ true → q (measure_of query i) ≡ true) → list_all items query.items ≡ true
      → (plain : Bool) → list_all q (measures_if plain query) ≡ true
  measures-so q items one each all true = λ i. one i && true
  measures-so q items one each all false = and_both (q measure.Count) (list_all q (map (measure_of query) query.items)) one (list_all-map q (measure_of query) query.items ∙ all-imply items (λ i. q (measure_of query i)) each query.items all)

  keys-so : list_all (λ i. list_all named (item_refs i)) query.items ≡ true → list_all named query.groups ≡ true → (plain : Bool) → is_plain query ≡ plain → list_all p (keys_if plain query) ≡ true
  keys-so items groups true e =
      let none : list_any is_total query.items ≡ false = (neither query.grouped (has_total query) (not-yes (query.grouped || has_total query) e)).1 in
      list_all-map p (item_pick query) query.items
      ∙ all-imply (λ i. list_all named (item_refs i) && not (is_total i)) (λ i. p (item_pick query i)) bare-pick query.items (all_both (λ i. list_all named (item_refs i)) (λ i. not (is_total i)) query.items items (none-total query.items none))
    where
      not-yes : (a : Bool) → not a ≡ true → a ≡ false
      not-yes true k = absurd (true≢false (sym k))
      not-yes false k = refl
  keys-so items groups false e = list_all-map p (pick_of query) query.groups ∙ all-imply named (λ r. p (pick_of query r)) picks query.groups groups

  pub plan-picks : list_all (λ i. list_all named (item_refs i)) query.items ≡ true → list_all named query.groups ≡ true
      → (list_all p (plan_of query).keys && list_all (λ m. list_all p (measure_picks m)) (plan_of query).measures) ≡ true
  plan-picks items groups =
      and_both (list_all p (plan_of query).keys) (list_all (λ m. list_all p (measure_picks m)) (plan_of query).measures) (keys-so items groups (is_plain query) refl)
      (measures-so (λ m. list_all p (measure_picks m)) (λ i. list_all named (item_refs i)) refl measure-picks items (is_plain query))

  pub plan-sums : list_all (λ i. list_all named (summed_refs i)) query.items ≡ true → list_all (λ m. list_all p (summed_picks m)) (plan_of query).measures ≡ true
  plan-sums items = measures-so (λ m. list_all p (summed_picks m)) (λ i. list_all named (summed_refs i)) refl sum-picks items (is_plain query)
