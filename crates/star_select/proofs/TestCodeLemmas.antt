-- Tests of codes that are kept for tests of values, in a cell.
use Rattle.std.proofs.Common.{◌≡◌, ◌==◌, ◌<◌, ℕ, true, ◌&&◌, List, [], ◌∷◌, ◌++◌, length, get_or, slice_set, slice_index_or, nat_lt, Some, None, position, refl, sym, ap, ◌∙◌, subst}
use Rattle.std.specs.List.{list_all, position_or_len}
use Rattle.std.proofs.lemmas.Bool.{eqb-true, ltb-true, lt-ltb}
use Rattle.std.proofs.lemmas.List.Folds.{list_all-append}
use Rattle.blink_lists.proofs.FindLemmas.{place_is, no_place, finds}
use Rattle.blink_lists.proofs.GroupLemmas.{both, and_both}
use Rattle.order_codes.specs.Dictionary.{Classes, codes_where, class_at}
use Rattle.page_synopsis.specs.BitSets.{all_below}
use Rattle.page_synopsis.specs.Runs.{in_both}
use Rattle.page_synopsis.specs.Sets.{codes_in, is_fair, is_set_of}
use Rattle.page_synopsis.specs.declared.ranges.Ranges.{Ranges}
use Rattle.cell_scan.specs.declared.code_test.CodeTest.{CodeTest}
use Rattle.cell_scan.specs.CodeTests.{code_set, code_sets, is_within}
use Rattle.cell_scan.specs.Match.{CodeSet}
use Rattle.cell_scan.specs.ValueTests.{ValueTest, cell_class}
use Rattle.star_select.specs.CodeSets.{set_in, put_set, is_good_test, is_test_of, are_tests_of}
use Rattle.star_select.proofs.ListLemmas.{found-passes}
use Rattle.star_select.proofs.PutSetLemmas.{of_column, same-codes, put-at, put-last, put-empty-at, all-set}

-- what a test that is kept as it should be has
pub record IsKept (columns : List Classes) (classes : List ℕ) (t : CodeTest) : Type 0 where
  pub fair : is_fair t.ranges ≡ true
  pub column : t.column < length columns
  pub below : all_below (length (cell_class columns classes t.column)) (codes_in t.ranges) ≡ true

module _ (columns : List Classes) (classes : List ℕ) where
  pub kept : (t : CodeTest) → is_good_test columns classes t ≡ true → IsKept columns classes t
  kept t h =
      let a = both (is_fair t.ranges) (is_within columns classes t) h in
      let b = both (nat_lt t.column (length columns)) (all_below (length (cell_class columns classes t.column)) (codes_in t.ranges)) a.1 in
      record { fair = a.0; column = ltb-true t.column (length columns) b.0; below = b.1 }

  pub good-test : (column : ℕ) (ranges : Ranges) → is_fair ranges ≡ true → column < length columns → all_below (length (cell_class columns classes column)) (codes_in ranges) ≡ true
      → is_good_test columns classes (record { column = column; ranges = ranges }) ≡ true
  good-test column ranges fair lt below =
      and_both (is_fair ranges) (nat_lt column (length columns) && all_below (length (cell_class columns classes column)) (codes_in ranges)) fair
      (and_both (nat_lt column (length columns)) (all_below (length (cell_class columns classes column)) (codes_in ranges)) (lt-ltb column (length columns) lt) below)

  -- the codes below the size of a column's class
  pub sized : (t : CodeTest) (column : ℕ) (values : Classes) (size : ℕ) → is_good_test columns classes t ≡ true → t.column ≡ column → values ≡ slice_index_or columns column []
      → size ≡ length (class_at values (slice_index_or classes column 0)) → all_below size (codes_in t.ranges) ≡ true
  sized t column values size h e is many =
      ap (λ n. all_below n (codes_in t.ranges))
      (many ∙ ap (λ (v : Classes). length (class_at v (slice_index_or classes column 0))) is ∙ ap (λ k. length (cell_class columns classes k)) (sym e))
      ∙ (kept t h).below

  -- the codes of a class whose values pass a test
  pub made-some : (t : ValueTest) (values : Classes) (ranges : Ranges) → values ≡ slice_index_or columns t.column [] → t.column < length columns
      → is_set_of (Some ranges) (codes_where t.holds (class_at values (slice_index_or classes t.column 0)))
      → all_below (length (class_at values (slice_index_or classes t.column 0))) (codes_in ranges) ≡ true
      → is_test_of columns classes (Some (record { column = t.column; ranges = ranges })) (set_in columns classes t)
  made-some t values ranges is lt set below = (
    ap (of_column t.column) (set.0 ∙ ap (λ (v : Classes). codes_where t.holds (class_at v (slice_index_or classes t.column 0))) is),
    good-test t.column ranges set.1 lt (sym (ap (λ (v : Classes). all_below (length (class_at v (slice_index_or classes t.column 0))) (codes_in ranges)) is) ∙ below),
  )

  pub made-none : (t : ValueTest) (values : Classes) → values ≡ slice_index_or columns t.column [] → is_set_of None (codes_where t.holds (class_at values (slice_index_or classes t.column 0)))
      → is_test_of columns classes None (set_in columns classes t)
  made-none t values is set = sym (ap (λ (v : Classes). codes_where t.holds (class_at v (slice_index_or classes t.column 0))) is) ∙ set

  -- the column of the first test that is found
  pub same-column : (tests : List CodeTest) (column at : ℕ) (a : CodeTest) → position (λ (x : CodeTest). x.column == column) tests ≡ Some at → a ≡ get_or tests at a → a.column ≡ column
  same-column tests column at a place is =
      let here = place_is (λ (x : CodeTest). x.column == column) tests at place in
      let first = found-passes (λ (x : CodeTest). x.column == column) tests (get_or tests (position_or_len (λ (x : CodeTest). x.column == column) tests) a)
      (finds (λ (x : CodeTest). x.column == column) tests a (subst (λ n. n < length tests) here.0 here.1)) in
      eqb-true a.column column (ap (λ (x : CodeTest). x.column == column) (is ∙ ap (λ n. get_or tests n a) here.0) ∙ first)

  -- a test put in the place of the one of its column
  pub met-some : (tests : List CodeTest) (t : CodeTest) (at : ℕ) (a : CodeTest) (ranges : Ranges) → position (λ (x : CodeTest). x.column == t.column) tests ≡ Some at → a ≡ get_or tests at a
      → list_all (is_good_test columns classes) tests ≡ true → is_good_test columns classes t ≡ true → is_set_of (Some ranges) (in_both (codes_in a.ranges) (codes_in t.ranges))
      → all_below (length (cell_class columns classes t.column)) (codes_in ranges) ≡ true
      → are_tests_of columns classes (Some (slice_set tests at (record { column = t.column; ranges = ranges }))) (put_set (code_sets tests) (code_set t))
  met-some tests t at a ranges place is all good set below =
      let here = place_is (λ (x : CodeTest). x.column == t.column) tests at place in (
        put-at tests t at a ranges here.0 here.1 is set.0,
        all-set (is_good_test columns classes) tests at (record { column = t.column; ranges = ranges }) all (good-test t.column ranges set.1 (kept t good).column below),
      )

  pub met-none : (tests : List CodeTest) (t : CodeTest) (at : ℕ) (a : CodeTest) → position (λ (x : CodeTest). x.column == t.column) tests ≡ Some at → a ≡ get_or tests at a
      → is_set_of None (in_both (codes_in a.ranges) (codes_in t.ranges)) → are_tests_of columns classes None (put_set (code_sets tests) (code_set t))
  met-none tests t at a place is set =
      let here = place_is (λ (x : CodeTest). x.column == t.column) tests at place in
      put-empty-at tests t at a here.0 here.1 is set

  -- a test put behind the others
  put-behind : (tests : List CodeTest) (t : CodeTest) → position (λ (x : CodeTest). x.column == t.column) tests ≡ None → list_all (is_good_test columns classes) tests ≡ true → is_good_test columns classes t ≡ true
      → are_tests_of columns classes (Some (tests ++ t ∷ [])) (put_set (code_sets tests) (code_set t))
  put-behind tests t place all good = (
    put-last tests t (no_place (λ (x : CodeTest). x.column == t.column) tests place),
    list_all-append (is_good_test columns classes) tests (t ∷ []) ∙ and_both (list_all (is_good_test columns classes) tests) (is_good_test columns classes t && true) all (and_both (is_good_test columns classes t) true good refl),
  )

  -- the copy of a test
  pub copy-some : (t : CodeTest) (ranges : Ranges) → is_good_test columns classes t ≡ true → is_set_of (Some ranges) (in_both (codes_in t.ranges) (codes_in t.ranges)) → all_below (length (cell_class columns classes t.column)) (codes_in ranges) ≡ true
      → is_test_of columns classes (Some (record { column = t.column; ranges = ranges })) (code_set t)
  copy-some t ranges good set below = (ap (of_column t.column) (set.0 ∙ same-codes (codes_in t.ranges)), good-test t.column ranges set.1 (kept t good).column below)

  pub copy-none : (t : CodeTest) → is_set_of None (in_both (codes_in t.ranges) (codes_in t.ranges)) → is_test_of columns classes None (code_set t)
  copy-none t set = sym (same-codes (codes_in t.ranges)) ∙ set

  -- the copy of a test put behind others
  pub copy-behind : (tests : List CodeTest) (t copy : CodeTest) → position (λ (x : CodeTest). x.column == t.column) tests ≡ None → list_all (is_good_test columns classes) tests ≡ true
      → is_test_of columns classes (Some copy) (code_set t) → are_tests_of columns classes (Some (tests ++ copy ∷ [])) (put_set (code_sets tests) (code_set t))
  copy-behind tests t copy place all made =
      subst (λ (set : CodeSet). are_tests_of columns classes (Some (tests ++ copy ∷ [])) (put_set (code_sets tests) set)) made.0
      (put-behind tests copy (subst (λ k. position (λ (x : CodeTest). x.column == k) tests ≡ None) (sym (ap (λ (set : CodeSet). set.column) made.0)) place) all made.1)
