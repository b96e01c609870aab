-- Which rows of a cell of the fact are selected, by sets of codes: those of a conjunction's tests, with the key sets of the ties among them. Source: after Raman et al., ICDE 2008 (star joins on codes).
use Rattle.std.specs.Prelude.{◌≡◌, ◌==◌, ℕ, Bool, true, false, ◌&&◌, List, [], ◌∷◌, ◌++◌, map, filter, length, nat_lt}
use Rattle.std.specs.List.{list_any, list_all, flat_map, zip}
use Rattle.blink_base.specs.Tests.{tree_holds}
use Rattle.blink_base.specs.Values.{Row}
use Rattle.star_bind.specs.declared.query.Conjunction.{Conjunction}
use Rattle.star_bind.specs.declared.query.Query.{Query}
use Rattle.star_bind.specs.Joins.{filters_at, is_wanted}
use Rattle.order_codes.specs.Dictionary.{Classes}
use Rattle.cell_layout.specs.Image.{TableImage, CellImage, decoded_row}
use Rattle.cell_layout.specs.Valid.{are_codes}
use Rattle.cell_scan.specs.Match.{passes_all}
use Rattle.cell_scan.specs.ValueTests.{ValueTest, passes_tests, sets_in}
use Rattle.code_join.specs.Keys.{Keyed, is_key}
use Rattle.star_select.specs.KeySets.{is_selected}
use Rattle.star_select.specs.Picks.{tied_columns}

-- the tests of a conjunction
abbrev pub conjunction_tests : Conjunction → List ValueTest
conjunction_tests c = map (λ t. record { column = t.column; holds = λ v. tree_holds v t.tree }) c.tests

-- the key sets of the ties, as tests of the tied columns
abbrev pub key_tests : Query → List Keyed → List ValueTest
key_tests query keys = map (λ (p : ℕ × Keyed). record { column = p.0; holds = is_key p.1 }) (zip (tied_columns query) keys)

-- two tests of a column as one
abbrev pub both_hold : ValueTest → ValueTest → ValueTest
both_hold a b = record { column = a.column; holds = λ v. a.holds v && b.holds v }

-- a test beside others: joined by AND with the one of its column, and else behind them
abbrev pub put_if : Bool → ValueTest → List ValueTest → ValueTest → List ValueTest → List ValueTest
put_if true a tests b more = both_hold a b ∷ tests
put_if false a tests b more = a ∷ more

abbrev pub put_test : List ValueTest → ValueTest → List ValueTest
put_test [] b = b ∷ []
put_test (a ∷ tests) b = put_if (a.column == b.column) a tests b (put_test tests b)

-- the same of several tests
abbrev pub put_tests : List ValueTest → List ValueTest → List ValueTest
put_tests tests [] = tests
put_tests tests (b ∷ more) = put_tests (put_test tests b) more

-- the tests of a conjunction of the fact and of all key sets, one a column
abbrev pub fact_tests : Query → List Keyed → Conjunction → List ValueTest
fact_tests query keys c = put_tests (conjunction_tests c) (key_tests query keys)

-- whether the codes of a row pass the tests of some conjunction, in a cell of these class numbers
abbrev pub codes_selected : List Classes → List ℕ → Query → List Keyed → List ℕ → Bool
codes_selected columns classes query keys codes = list_any (λ c. passes_all (sets_in columns classes (fact_tests query keys c)) codes) (filters_at query query.fact)

-- whether the codes of a row of a table pass the tests of some conjunction of the table's own, in a cell of these class numbers
abbrev pub codes_wanted : List Classes → List ℕ → Query → ℕ → List ℕ → Bool
codes_wanted columns classes query table codes = list_any (λ c. passes_all (sets_in columns classes (conjunction_tests c)) codes) (filters_at query table)

-- the rows of a table on which its own condition is true: cell by cell by their codes, and then those that are in no cell
abbrev pub image_wanted : TableImage → Query → ℕ → List Row
image_wanted image query table =
    flat_map (λ cell. map (decoded_row image.columns cell.classes) (filter (codes_wanted image.columns cell.classes query table) cell.rows)) image.cells ++ filter (is_wanted query table) image.rest

-- each cell of the fact with its selected rows
abbrev pub fact_cells : TableImage → Query → List Keyed → List (CellImage × List (List ℕ))
fact_cells image query keys = map (λ cell. (cell, filter (codes_selected image.columns cell.classes query keys) cell.rows)) image.cells

-- the selected rows of the fact that are in no cell
abbrev pub fact_rest : TableImage → Query → List Keyed → List Row
fact_rest image query keys = filter (is_selected query keys) image.rest

-- whether a conjunction is of columns of a table of so many
abbrev pub is_of_columns : ℕ → Conjunction → Bool
is_of_columns columns c = list_all (λ t. nat_lt t.column columns) c.tests

-- what a query names of its fact is there: the columns of conjunctions and of ties, and a key map per tie
pub record NamesFact (columns : ℕ) (query : Query) (keys : List Keyed) : Type 0 where
  pub conjunctions : list_all (is_of_columns columns) (filters_at query query.fact) ≡ true
  pub ties : list_all (λ k. nat_lt k columns) (tied_columns query) ≡ true
  pub as_many : length keys ≡ length (tied_columns query)

-- The law that a row of the fact is selected exactly where it passes the tests of some conjunction, with all key sets among them.
abbrev pub SelectsByConjunctions : Type 0
SelectsByConjunctions =
    (query : Query) (keys : List Keyed) (row : Row) → is_selected query keys row ≡ list_any (λ c. passes_tests (fact_tests query keys c) row) (filters_at query query.fact)

-- The law that the codes of a row of the fact are selected exactly where the row that they stand for is.
abbrev pub SelectsByCodes : Type 0
SelectsByCodes =
    (columns : List Classes) (classes codes : List ℕ) (query : Query) (keys : List Keyed) → length classes ≡ length columns → are_codes columns classes codes ≡ true
    → NamesFact (length columns) query keys → codes_selected columns classes query keys codes ≡ is_selected query keys (decoded_row columns classes codes)

-- The law that the codes of a row pass the tests of some conjunction of its table exactly where that table's own condition is true of the row that they stand for.
abbrev pub WantedByCodes : Type 0
WantedByCodes =
    (columns : List Classes) (classes codes : List ℕ) (query : Query) (table : ℕ) → length classes ≡ length columns → are_codes columns classes codes ≡ true
    → list_all (is_of_columns (length columns)) (filters_at query table) ≡ true → codes_wanted columns classes query table codes ≡ is_wanted query table (decoded_row columns classes codes)
