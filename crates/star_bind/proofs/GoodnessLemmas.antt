-- The tests of a well formed statement are well formed, and so are those of its factors.
use Rattle.std.proofs.Common.{◌≡◌, ◌&&◌, Bool, true, List, [], ◌∷◌, ◌++◌, map, Option, Some, None, Result, Ok, Err, IfOk, IsTrue, refl, sym, ap, ◌∙◌, true≢false}
use Rattle.std.specs.List.{list_all}
use Rattle.std.proofs.lemmas.Bool.{and_parts}
use Rattle.std.proofs.lemmas.List.Folds.{list_all-append}
use Rattle.blink_lists.specs.Lists.{all_true}
use Rattle.star_sql.specs.declared.ast.Primary.{Primary, Test as TestIn, Group', Row_of-Cond, end_of-Cond, more_of-Cond}
use Rattle.star_sql.specs.declared.ast.Cond.{Cond, Cond', Row_of-Conj, end_of-Conj, more_of-Conj, Row_of-Primary, end_of-Primary, more_of-Primary}
use Rattle.star_sql.specs.declared.ast.Select.{Select}
use Rattle.star_sql.specs.Conditions.{of_boxed, of_conjs, of_prims}
use Rattle.star_sql.specs.WellFormed.{is_test, is_condition, some_and_all, if_there, is_item, is_column_name, is_order_key, is_written_limit, is_select}
use Rattle.blink_base.specs.Identifiers.{is_name}
use Rattle.star_bind.specs.declared.star.factors.Factor.{Factor}
use Rattle.star_bind.specs.Checks.{primary_is_good, cond_is_good, where_formed}
use Rattle.star_bind.specs.Factors.{grouped, factors_of, of_one, of_all, of_primary, of_box, factors}
use Rattle.star_bind.specs.FactorParts.{primary_of}
use Rattle.star_bind.proofs.FoldLemmas.{AllAgree, cond_agrees}

-- where the first is true, so is the second
abbrev Implied : Bool → Bool → Type 0
Implied a b = a ≡ true → b ≡ true

all_implied : (xs ys : List Bool) → AllAgree Implied xs ys → list_all (λ b. b) xs ≡ true → list_all (λ b. b) ys ≡ true
all_implied [] [] a h = refl
all_implied [] (y ∷ ys) a h = absurd a
all_implied (x ∷ xs) [] a h = absurd a
all_implied (x ∷ xs) (y ∷ ys) a h = let parts = and_parts x (list_all (λ b. b) xs) h in λ i. a.0 parts.0 i && all_implied xs ys a.1 parts.1 i

some_implied : (xs ys : List Bool) → AllAgree Implied xs ys → Implied (some_and_all (λ b. b) xs) (all_true ys)
some_implied [] ys a h = absurd (true≢false (sym h))
some_implied (x ∷ xs) ys a h = all_implied (x ∷ xs) ys a h

pub condition_good : (c : Cond) → is_condition c ≡ true → cond_is_good c ≡ true
condition_good c =
    cond_agrees Implied is_test (λ b. b) (some_and_all (λ b. b)) (some_and_all (λ b. b)) is_test (λ b. b) all_true all_true
    (λ w h. h) (λ x y a. a) some_implied some_implied c

abbrev goods : {n : _} → Row_of-Primary n → List Bool
goods prims = of_prims is_test (λ b. b) all_true all_true prims

abbrev are_good : List Primary → Bool
are_good ps = list_all primary_is_good ps

both_good : (ps qs : List Primary) → are_good ps ≡ true → are_good qs ≡ true → are_good (ps ++ qs) ≡ true
both_good ps qs p q = list_all-append primary_is_good ps qs ∙ λ i. p i && q i

mutual
  cond_ok : (c : Cond) → cond_is_good c ≡ true → are_good (factors_of c) ≡ true
  cond_ok (Cond' shape conjs) h = one_ok (grouped (Cond' shape conjs)) conjs h h

  one_ok : {n : _} (whole : Primary) (conjs : Row_of-Conj n) → primary_is_good whole ≡ true → all_true (of_conjs is_test (λ b. b) all_true all_true conjs) ≡ true → are_good (of_one whole conjs) ≡ true
  one_ok whole end_of-Conj g h = λ i. g i && true
  one_ok whole (more_of-Conj shape prims end_of-Conj) g h = prims_ok prims (and_parts (all_true (goods prims)) true h).0
  one_ok whole (more_of-Conj shape prims (more_of-Conj other more rest)) g h = λ i. g i && true

  prims_ok : {n : _} (prims : Row_of-Primary n) → all_true (goods prims) ≡ true → are_good (of_all prims) ≡ true
  prims_ok end_of-Primary h = refl
  prims_ok (more_of-Primary prim prims) h =
      let parts = and_parts (primary_is_good prim) (all_true (goods prims)) h in
      both_good (of_primary prim) (of_all prims) (prim_ok prim parts.0) (prims_ok prims parts.1)

  prim_ok : (p : Primary) → primary_is_good p ≡ true → are_good (of_primary p) ≡ true
  prim_ok (TestIn words) h = λ i. h i && true
  prim_ok (Group' shape cond) h = box_ok (Group' shape cond) cond h h

  box_ok : {n : _} (whole : Primary) (box : Row_of-Cond n) → primary_is_good whole ≡ true → of_boxed is_test (λ b. b) all_true all_true box ≡ true → are_good (of_box whole box) ≡ true
  box_ok whole end_of-Cond g h = λ i. g i && true
  box_ok whole (more_of-Cond cond rest) g h = cond_ok cond h

pub factors_good : (o : Option Cond) → where_formed o ≡ true → list_all primary_is_good (factors o) ≡ true
factors_good None h = refl
factors_good (Some c) h = cond_ok c (condition_good c h)

pub mapped_good : (fs : List Factor) → list_all (λ f. primary_is_good (primary_of f)) fs ≡ list_all primary_is_good (map primary_of fs)
mapped_good [] = refl
mapped_good (f ∷ fs) = ap (λ b. primary_is_good (primary_of f) && b) (mapped_good fs)

pub good_factors : (o : Option Cond) (fs : List Factor) → where_formed o ≡ true → map primary_of fs ≡ factors o → list_all (λ f. primary_is_good (primary_of f)) fs ≡ true
good_factors o fs h e = mapped_good fs ∙ ap (list_all primary_is_good) e ∙ factors_good o h

pub gathered_good : {X E : Type 0} (items : X → List Factor) (r : Result X E) (o : Option Cond) → where_formed o ≡ true → IfOk r (λ all. map primary_of (items all) ≡ factors o)
    → IfOk r (λ all. list_all (λ f. primary_is_good (primary_of f)) (items all) ≡ true)
gathered_good items (Ok all) o h told = good_factors o (items all) h told
gathered_good items (Err why) o h told = tt

-- the condition of a well formed SELECT is well formed
pub select_formed : (s : Select) → IsTrue (is_select s) → where_formed s.condition ≡ true
select_formed s h =
    let first = some_and_all is_item s.items && some_and_all is_name s.tables in
    let upto = first && if_there is_condition s.condition in
    let a = and_parts (upto && list_all is_column_name s.groups && list_all is_order_key s.order) (if_there is_written_limit s.limit) h in
    let b = and_parts (upto && list_all is_column_name s.groups) (list_all is_order_key s.order) a.0 in
    let c = and_parts upto (list_all is_column_name s.groups) b.0 in
    let d = and_parts first (if_there is_condition s.condition) c.0 in
    there s.condition d.1
  where
    there : (o : Option Cond) → if_there is_condition o ≡ true → where_formed o ≡ true
    there None e = refl
    there (Some c) e = e
