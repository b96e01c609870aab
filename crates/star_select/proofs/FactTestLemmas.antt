-- Tests of a conjunction and of key sets, one a column.
use Rattle.std.proofs.Common.{◌≡◌, ◌==◌, ℕ, pos, Bool, true, false, ◌&&◌, ◌||◌, List, [], ◌∷◌, nat_lt, slice_index_or, refl, sym, ap, ◌∙◌}
use Rattle.std.specs.List.{list_any, list_all, zip}
use Rattle.std.proofs.lemmas.Bool.{eqb-true}
use Rattle.std.proofs.lemmas.List.Folds.{list_all-map}
use Rattle.blink_base.specs.declared.value.Value.TheVariants.{Int}
use Rattle.blink_base.specs.Tests.{tree_holds}
use Rattle.blink_base.specs.Values.{Row}
use Rattle.blink_lists.proofs.ChoiceLemmas.{any-alike}
use Rattle.blink_lists.proofs.GroupLemmas.{both, and_both}
use Rattle.star_bind.specs.declared.query.ColumnTest.{ColumnTest}
use Rattle.star_bind.specs.declared.query.Conjunction.{Conjunction}
use Rattle.star_bind.specs.declared.query.Query.{Query}
use Rattle.star_bind.specs.Conjunctions.{passes}
use Rattle.star_bind.specs.Joins.{filters_at}
use Rattle.cell_scan.specs.ValueTests.{ValueTest, passes_tests}
use Rattle.code_join.specs.Keys.{Keyed, is_key}
use Rattle.code_group.specs.Entries.{has_keys}
use Rattle.star_select.specs.CodeSelection.{conjunction_tests, key_tests, put_if, put_test, put_tests, fact_tests, is_of_columns, SelectsByConjunctions}
use Rattle.star_select.specs.Picks.{tied_columns}

and-last : (a b c : Bool) → ((a && b) && c) ≡ ((a && c) && b)
and-last true true c = sym (also c)
  where
    also : (d : Bool) → (d && true) ≡ d
    also true = refl
    also false = refl
and-last true false true = refl
and-last true false false = refl
and-last false b c = refl

and-first : (a b c : Bool) → (a && (b && c)) ≡ ((a && b) && c)
and-first true b c = refl
and-first false b c = refl

-- ---- which rows pass

module _ (row : Row) where
  -- whether a test is true of the row
  abbrev holds : ValueTest → Bool
  holds t = t.holds (slice_index_or row t.column (Int (pos 0)))

  put-passes : (tests : List ValueTest) (b : ValueTest) → passes_tests (put_test tests b) row ≡ (passes_tests tests row && holds b)
  put-passes [] b = also (holds b)
    where
      also : (d : Bool) → (d && true) ≡ d
      also true = refl
      also false = refl
  put-passes (a ∷ tests) b = by (a.column == b.column) refl (put-passes tests b)
    where
      by : (c : Bool) → (a.column == b.column) ≡ c → passes_tests (put_test tests b) row ≡ (passes_tests tests row && holds b)
          → passes_tests (put_if c a tests b (put_test tests b)) row ≡ ((holds a && passes_tests tests row) && holds b)
      by true e more =
          ap (λ k. (holds a && b.holds (slice_index_or row k (Int (pos 0)))) && passes_tests tests row) (eqb-true a.column b.column e)
          ∙ and-last (holds a) (holds b) (passes_tests tests row)
      by false e more = ap (λ c. holds a && c) more ∙ and-first (holds a) (passes_tests tests row) (holds b)

  all-put-pass : (tests more : List ValueTest) → passes_tests (put_tests tests more) row ≡ (passes_tests tests row && passes_tests more row)
  all-put-pass tests [] = sym (also (passes_tests tests row))
    where
      also : (d : Bool) → (d && true) ≡ d
      also true = refl
      also false = refl
  all-put-pass tests (b ∷ more) =
      all-put-pass (put_test tests b) more
      ∙ ap (λ c. c && passes_tests more row) (put-passes tests b)
      ∙ sym (and-first (passes_tests tests row) (holds b) (passes_tests more row))

any-and : {X : Type 0} (p : X → Bool) (b : Bool) (xs : List X) → (list_any p xs && b) ≡ list_any (λ x. p x && b) xs
any-and p b [] = refl
any-and {X = X} p b (x ∷ xs) = by (p x) b (any-and p b xs)
  where
    none : (ys : List X) → list_any (λ y. p y && false) ys ≡ false
    none [] = refl
    none (y ∷ ys) = λ i. never (p y) i || none ys i
      where
        never : (a : Bool) → (a && false) ≡ false
        never true = refl
        never false = refl

    by : (a c : Bool) → (list_any p xs && c) ≡ list_any (λ x. p x && c) xs → ((a || list_any p xs) && c) ≡ ((a && c) || list_any (λ x. p x && c) xs)
    by true true more = refl
    by true false more = sym (none xs)
    by false c more = more

pub selects_by_conjunctions : SelectsByConjunctions
selects_by_conjunctions query keys row =
    let joined : Bool = has_keys (tied_columns query) keys row in
    any-and (passes row) joined (filters_at query query.fact)
    ∙ any-alike (λ c. passes row c && joined) (λ c. passes_tests (fact_tests query keys c) row)
    (λ c. sym (all-put-pass row (conjunction_tests c) (key_tests query keys)
    ∙ (λ i. list_all-map (holds row) (λ (t : ColumnTest). record { column = t.column; holds = λ v. tree_holds v t.tree }) c.tests i
    && list_all-map (holds row) (λ (p : ℕ × Keyed). record { column = p.0; holds = is_key p.1 }) (zip (tied_columns query) keys) i)))
    (filters_at query query.fact)

-- ---- which columns are tested

module _ (q : ℕ → Bool) where
  -- whether all columns of tests are so
  abbrev all_columns : List ValueTest → Bool
  all_columns tests = list_all (λ t. q t.column) tests

  put-columns : (tests : List ValueTest) (b : ValueTest) → all_columns tests ≡ true → q b.column ≡ true → all_columns (put_test tests b) ≡ true
  put-columns [] b h k = λ i. k i && true
  put-columns (a ∷ tests) b h k = let c = both (q a.column) (all_columns tests) h in by (a.column == b.column) c.0 c.1 (put-columns tests b c.1 k)
    where
      by : (c : Bool) → q a.column ≡ true → all_columns tests ≡ true → all_columns (put_test tests b) ≡ true → all_columns (put_if c a tests b (put_test tests b)) ≡ true
      by true f g more = and_both (q a.column) (all_columns tests) f g
      by false f g more = and_both (q a.column) (all_columns (put_test tests b)) f more

  all-put-columns : (tests more : List ValueTest) → all_columns tests ≡ true → all_columns more ≡ true → all_columns (put_tests tests more) ≡ true
  all-put-columns tests [] h k = h
  all-put-columns tests (b ∷ more) h k = let c = both (q b.column) (all_columns more) k in all-put-columns (put_test tests b) more (put-columns tests b h c.0) c.1

in-zip : (q : ℕ → Bool) (ks : List ℕ) (keys : List Keyed) → list_all q ks ≡ true → list_all (λ (p : ℕ × Keyed). q p.0) (zip ks keys) ≡ true
in-zip q [] keys h = refl
in-zip q (k ∷ ks) [] h = refl
in-zip q (k ∷ ks) (key ∷ keys) h = let b = both (q k) (list_all q ks) h in and_both (q k) (list_all (λ (p : ℕ × Keyed). q p.0) (zip ks keys)) b.0 (in-zip q ks keys b.1)

-- the columns and the tests of a conjunction alone
pub conjunction-named : (columns : ℕ) (c : Conjunction) → is_of_columns columns c ≡ true → list_all (λ (t : ValueTest). nat_lt t.column columns) (conjunction_tests c) ≡ true
conjunction-named columns c own = list_all-map (λ (t : ValueTest). nat_lt t.column columns) (λ (t : ColumnTest). record { column = t.column; holds = λ v. tree_holds v t.tree }) c.tests ∙ own

pub conjunction-passes : (row : Row) (c : Conjunction) → passes_tests (conjunction_tests c) row ≡ passes row c
conjunction-passes row c = list_all-map (holds row) (λ (t : ColumnTest). record { column = t.column; holds = λ v. tree_holds v t.tree }) c.tests

-- the columns of a conjunction and of ties
pub tests-named : (columns : ℕ) (query : Query) (keys : List Keyed) (c : Conjunction) → is_of_columns columns c ≡ true → list_all (λ k. nat_lt k columns) (tied_columns query) ≡ true
    → list_all (λ (t : ValueTest). nat_lt t.column columns) (fact_tests query keys c) ≡ true
tests-named columns query keys c own tied =
    all-put-columns (λ k. nat_lt k columns) (conjunction_tests c) (key_tests query keys)
    (conjunction-named columns c own)
    (list_all-map (λ (t : ValueTest). nat_lt t.column columns) (λ (p : ℕ × Keyed). record { column = p.0; holds = is_key p.1 }) (zip (tied_columns query) keys) ∙ in-zip (λ k. nat_lt k columns) (tied_columns query) keys tied)
