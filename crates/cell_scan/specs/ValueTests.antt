-- Tests of values as sets of codes, in a cell. Source: after Raman et al., ICDE 2008 (order-preserving codes within a partition).
use Rattle.std.specs.Prelude.{◌≡◌, ℕ, pos, Bool, true, List, [], map, length, nat_lt, slice_index_or}
use Rattle.std.specs.List.{list_all}
use Rattle.blink_base.specs.declared.value.Value.{Value}
use Rattle.blink_base.specs.declared.value.Value.TheVariants.{Int}
use Rattle.blink_base.specs.Values.{Row}
use Rattle.order_codes.specs.Dictionary.{Classes, class_at, codes_where}
use Rattle.cell_layout.specs.Image.{decoded_row}
use Rattle.cell_layout.specs.Valid.{are_codes}
use Rattle.cell_scan.specs.Match.{CodeSet, passes_all}

-- a column, and the values of which a test of it is true: a condition gives one, a key set gives one
pub record ValueTest : Type 0 where
  pub column : ℕ
  pub holds : Value → Bool

-- whether a row passes tests
abbrev pub passes_tests : List ValueTest → Row → Bool
passes_tests tests row = list_all (λ t. t.holds (slice_index_or row t.column (Int (pos 0)))) tests

-- the values of the class that a cell of these class numbers has in a column
abbrev pub cell_class : List Classes → List ℕ → ℕ → List Value
cell_class columns classes column = class_at (slice_index_or columns column []) (slice_index_or classes column 0)

-- the tests as sets of codes, in a cell of these class numbers
abbrev pub sets_in : List Classes → List ℕ → List ValueTest → List CodeSet
sets_in columns classes tests = map (λ t. record { column = t.column; codes = codes_where t.holds (cell_class columns classes t.column) }) tests

-- whether the tests name columns of a table of so many
abbrev pub name_columns : List Classes → List ValueTest → Type 0
name_columns columns tests = list_all (λ t. nat_lt t.column (length columns)) tests ≡ true

-- The law that the codes of a row are in the sets exactly where its values pass the tests.
abbrev pub SetsAreTests : Type 0
SetsAreTests =
    (columns : List Classes) (classes codes : List ℕ) (tests : List ValueTest) → length classes ≡ length columns → are_codes columns classes codes ≡ true
    → name_columns columns tests → passes_all (sets_in columns classes tests) codes ≡ passes_tests tests (decoded_row columns classes codes)
