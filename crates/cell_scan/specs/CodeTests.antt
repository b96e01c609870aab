-- Tests of codes as sets of codes, and which tests a cell may be asked. Source: this project's own.
use Rattle.std.specs.Prelude.{ℕ, Bool, ◌&&◌, ◌==◌, List, [], map, length, nat_lt, slice_index_or}
use Rattle.std.specs.List.{list_all}
use Rattle.blink_lists.specs.Lists.{are_distinct}
use Rattle.order_codes.specs.Dictionary.{Classes, class_at}
use Rattle.page_synopsis.specs.BitSets.{all_below}
use Rattle.page_synopsis.specs.Sets.{codes_in}
use Rattle.cell_scan.specs.declared.code_test.CodeTest.{CodeTest}
use Rattle.cell_scan.specs.Match.{CodeSet}

-- the set of codes of a test
abbrev pub code_set : CodeTest → CodeSet
code_set test = record { column = test.column; codes = codes_in test.ranges }

-- the sets of codes of tests
abbrev pub code_sets : List CodeTest → List CodeSet
code_sets tests = map code_set tests

-- whether no column is tested twice
abbrev pub columns_apart : List CodeTest → Bool
columns_apart tests = are_distinct (λ x y. x == y) (map (λ t. t.column) tests)

-- whether a test names a column, and codes below the size of the class that a cell of these class numbers has there
abbrev pub is_within : List Classes → List ℕ → CodeTest → Bool
is_within columns classes test =
    nat_lt test.column (length columns) && all_below (length (class_at (slice_index_or columns test.column []) (slice_index_or classes test.column 0))) (codes_in test.ranges)

-- whether all tests do
abbrev pub are_within : List Classes → List ℕ → List CodeTest → Bool
are_within columns classes tests = list_all (is_within columns classes) tests
