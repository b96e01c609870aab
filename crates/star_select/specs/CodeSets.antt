-- Sets of codes of a cell, with further sets among them, and the tests that are kept for them. Source: after Raman et al., ICDE 2008 (predicates and star joins on codes).
use Rattle.std.specs.Prelude.{◌≡◌, ◌==◌, ℕ, Bool, true, false, ◌&&◌, List, [], ◌∷◌, ◌++◌, length, Option, Some, None, IsTrue}
use Rattle.std.specs.List.{list_all, list_any}
use Rattle.blink_base.specs.RowFits.{is_good}
use Rattle.blink_base.specs.Tests.{tree_holds}
use Rattle.star_bind.specs.declared.query.ColumnTest.{ColumnTest}
use Rattle.order_codes.specs.Dictionary.{Classes, codes_where}
use Rattle.page_synopsis.specs.Runs.{in_both}
use Rattle.page_synopsis.specs.Sets.{is_fair}
use Rattle.cell_scan.specs.declared.code_test.CodeTest.{CodeTest}
use Rattle.cell_scan.specs.CodeTests.{code_set, code_sets, is_within}
use Rattle.cell_scan.specs.Match.{CodeSet}
use Rattle.cell_scan.specs.ValueTests.{ValueTest, cell_class}
use Rattle.code_join.specs.Keys.{Keyed, is_key}

-- a condition on a column
abbrev pub column_test : ColumnTest → ValueTest
column_test t = record { column = t.column; holds = λ v. tree_holds v t.tree }

-- the keys of a tie, as a test of the tied column
abbrev pub key_test : ℕ → Keyed → ValueTest
key_test column keys = record { column = column; holds = is_key keys }

-- the set of codes of a test, in a cell of these class numbers
abbrev pub set_in : List Classes → List ℕ → ValueTest → CodeSet
set_in columns classes t = record { column = t.column; codes = codes_where t.holds (cell_class columns classes t.column) }

-- two sets of a column as one
abbrev pub both_in : CodeSet → CodeSet → CodeSet
both_in a b = record { column = a.column; codes = in_both a.codes b.codes }

-- a set beside others: joined by AND with the one of its column, and else behind them
abbrev pub meet_if : Bool → CodeSet → List CodeSet → CodeSet → List CodeSet → List CodeSet
meet_if true a sets b more = both_in a b ∷ sets
meet_if false a sets b more = a ∷ more

abbrev pub put_set : List CodeSet → CodeSet → List CodeSet
put_set [] b = b ∷ []
put_set (a ∷ sets) b = meet_if (a.column == b.column) a sets b (put_set sets b)

-- the same of several sets
abbrev pub put_sets : List CodeSet → List CodeSet → List CodeSet
put_sets sets [] = sets
put_sets sets (b ∷ more) = put_sets (put_set sets b) more

-- whether some set has no code
abbrev pub some_empty : List CodeSet → Bool
some_empty sets = list_any (λ set. length set.codes == 0) sets

-- whether the set of a test is kept as it should be, and is of codes that are there
abbrev pub is_good_test : List Classes → List ℕ → CodeTest → Bool
is_good_test columns classes t = is_fair t.ranges && is_within columns classes t

-- a test is kept for a set, or none where it has no code
abbrev pub is_test_of : List Classes → List ℕ → Option CodeTest → CodeSet → Type 0
is_test_of columns classes None set = set.codes ≡ []
is_test_of columns classes (Some t) set = (code_set t ≡ set) × IsTrue (is_good_test columns classes t)

-- tests are kept for sets, or none where some set has no code
abbrev pub are_tests_of : List Classes → List ℕ → Option (List CodeTest) → List CodeSet → Type 0
are_tests_of columns classes None sets = IsTrue (some_empty sets)
are_tests_of columns classes (Some tests) sets = (code_sets tests ≡ sets) × IsTrue (list_all (is_good_test columns classes) tests)

-- lists of tests with one more, where there is one
abbrev pub with_some : List (List CodeTest) → Option (List CodeTest) → List (List CodeTest)
with_some all None = all
with_some all (Some tests) = all ++ tests ∷ []

-- whether the values of all classes of columns are good
abbrev pub are_good_columns : List Classes → Bool
are_good_columns columns = list_all (list_all (list_all is_good)) columns
