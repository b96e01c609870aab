-- The tests of codes that a cell is asked for a condition, a list of them per conjunction. Source: after Raman et al., ICDE 2008 (predicates and star joins on codes).
use Rattle.std.specs.Prelude.{◌==◌, ℕ, Bool, ◌&&◌, List, map}
use Rattle.std.specs.List.{list_all, list_any, zip}
use Rattle.blink_lists.specs.Lists.{are_distinct}
use Rattle.star_bind.specs.declared.query.Conjunction.{Conjunction}
use Rattle.order_codes.specs.Dictionary.{Classes}
use Rattle.page_synopsis.specs.Sets.{is_fair}
use Rattle.cell_layout.specs.Image.{TableImage, cell_at}
use Rattle.cell_scan.specs.declared.code_test.CodeTest.{CodeTest}
use Rattle.cell_scan.specs.CodeTests.{are_within, code_sets, columns_apart}
use Rattle.cell_scan.specs.Match.{passes_all}
use Rattle.cell_scan.specs.ValueTests.{ValueTest, sets_in}
use Rattle.code_join.specs.Keys.{Keyed, is_key}
use Rattle.star_select.specs.CodeSelection.{conjunction_tests, put_tests}

-- key sets as tests of the tied columns
abbrev pub tie_tests : List ℕ → List Keyed → List ValueTest
tie_tests ties keys = map (λ (p : ℕ × Keyed). record { column = p.0; holds = is_key p.1 }) (zip ties keys)

-- the tests of a conjunction and of key sets, one a column
abbrev pub tied_tests : List ℕ → List Keyed → Conjunction → List ValueTest
tied_tests ties keys c = put_tests (conjunction_tests c) (tie_tests ties keys)

-- whether no conjunction with these ties tests a column twice
abbrev pub are_apart : List ℕ → List Keyed → List Conjunction → Bool
are_apart ties keys cs = list_all (λ c. are_distinct (λ x y. x == y) (map (λ t. t.column) (tied_tests ties keys c))) cs

-- whether the codes of a row pass the tests of some conjunction, in a cell of these class numbers
abbrev pub is_passed : List Classes → List ℕ → List ℕ → List Keyed → List Conjunction → List ℕ → Bool
is_passed columns classes ties keys cs codes = list_any (λ c. passes_all (sets_in columns classes (tied_tests ties keys c)) codes) cs

-- whether a cell may be asked tests of codes
abbrev pub may_be_asked : TableImage → ℕ → List CodeTest → Bool
may_be_asked image cell tests = list_all (λ t. is_fair t.ranges) tests && columns_apart tests && are_within image.columns (cell_at image cell).classes tests

-- whether the codes of a row pass some list of tests
abbrev pub passes_some : List (List CodeTest) → List ℕ → Bool
passes_some lists codes = list_any (λ tests. passes_all (code_sets tests) codes) lists
