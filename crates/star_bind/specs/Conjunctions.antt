-- A table's condition as a list of conjunctions, each a list of tests on one column each. Source: this project's own.
use Rattle.std.specs.Prelude.{ℕ, Bool, ◌&&◌, not, List, [], ◌∷◌, map, filter, Option, Some, None, ◌==◌, option_map, slice_index_or, pos}
use Rattle.std.specs.List.{list_all}
use Rattle.std.specs.Option.{option_map_or}
use Rattle.blink_base.specs.declared.test.Test.{Test}
use Rattle.blink_base.specs.declared.tree.Tree.{Tree, Leaf, All, Any}
use Rattle.blink_base.specs.declared.value.Value.TheVariants.{Int}
use Rattle.blink_base.specs.Values.{Row}
use Rattle.blink_base.specs.Tests.{tree_holds}
use Rattle.blink_lists.specs.Lists.{joined, once_each, choices}
use Rattle.star_sql.specs.declared.ast.TestWords.{TestWords}
use Rattle.star_sql.specs.declared.ast.Primary.{Primary}
use Rattle.star_sql.specs.declared.ast.Select.{Select}
use Rattle.star_sql.specs.Conditions.{of_prim}
use Rattle.star_sql.specs.Literals.{test_of, column_of}
use Rattle.star_meaning.specs.Names.{Scope, place_of, kind_at}
use Rattle.star_bind.specs.declared.query.ColumnTest.{ColumnTest}
use Rattle.star_bind.specs.declared.query.Conjunction.{Conjunction}
use Rattle.star_bind.specs.Factors.{factors}
use Rattle.star_bind.specs.StarForm.{is_pair_factor, tables_in}

-- the tests of a conjunction while it is put together
abbrev pub Tests : Type 0
Tests = List ColumnTest

-- a subtree: the columns that it names, in the order of their first mention, the tree as if they were one, and its conjunctions
pub record Subtree : Type 0 where
  pub columns : List ℕ
  pub tree : Tree
  pub conjunctions : List Tests

-- the columns of several subtrees, each once
abbrev pub columns_of : List Subtree → List ℕ
columns_of parts = once_each (λ x y. x == y) (joined (map (λ p. p.columns) parts))

-- over one column a subtree is one conjunction
abbrev pub subtree : List ℕ → Tree → List Tests → Subtree
subtree (column ∷ []) tree conjunctions = record { columns = column ∷ []; tree = tree; conjunctions = (record { column = column; tree = tree } ∷ []) ∷ [] }
subtree columns tree conjunctions = record { columns = columns; tree = tree; conjunctions = conjunctions }

-- trees joined by AND; one alone is itself
abbrev pub anded : List Tree → Tree
anded (tree ∷ []) = tree
anded trees = All trees

-- the tests of a choice, in the order in which their columns are first mentioned; those of one column joined by AND
abbrev pub merged : List ColumnTest → Tests
merged tests = map (λ k. record { column = k; tree = anded (map (λ t. t.tree) (filter (λ t. k == t.column) tests)) }) (once_each (λ x y. x == y) (map (λ t. t.column) tests))

-- an AND over several columns: every choice of one conjunction per part, the first part varying slowest
abbrev pub and_of : List Subtree → Subtree
and_of parts = subtree (columns_of parts) (All (map (λ p. p.tree) parts)) (map (λ choice. merged (joined choice)) (choices (map (λ p. p.conjunctions) parts)))

-- an OR over several columns: the conjunctions of its parts, one after another
abbrev pub or_of : List Subtree → Subtree
or_of parts = subtree (columns_of parts) (Any (map (λ p. p.tree) parts)) (joined (map (λ p. p.conjunctions) parts))

-- what is true of no row: a test that no query has which is accepted
abbrev pub nothing : Subtree
nothing = record { columns = []; tree = Any []; conjunctions = [] }

-- a test of one column
abbrev pub leaf_of : Option ℕ → Option Test → Subtree
leaf_of (Some k) (Some t) = subtree (k ∷ []) (Leaf t) []
leaf_of (Some k) None = nothing
leaf_of None t = nothing

-- the subtree of a test as written
abbrev pub test_subtree : Scope → TestWords → Subtree
test_subtree scope words =
    let place = place_of scope (column_of words) in
    leaf_of (option_map (λ p. p.column) place) (option_map_or (λ p. test_of (kind_at scope p) words) place None)

-- the subtree of a factor
abbrev pub factor_subtree : Scope → Primary → Subtree
factor_subtree scope = of_prim (test_subtree scope) (λ s. s) and_of or_of

-- the factors of a table that are no ties: all columns that they name are this table's
abbrev pub filters_of : Scope → Select → ℕ → List Primary
filters_of scope s table = filter (λ f. not (is_pair_factor f) && list_all (λ t. t == table) (tables_in scope f)) (factors s.condition)

-- the conjunctions of a table's condition, the AND of its filters; one that names no column where it has none
abbrev pub table_conjunctions : Scope → Select → ℕ → List Conjunction
table_conjunctions scope s table = map (λ tests. record { tests = tests }) (and_of (map (factor_subtree scope) (filters_of scope s table))).conjunctions

-- whether a row passes a test
abbrev pub passes_test : Row → ColumnTest → Bool
passes_test row t = tree_holds (slice_index_or row t.column (Int (pos 0))) t.tree

-- whether a row passes all tests of a conjunction
abbrev pub passes : Row → Conjunction → Bool
passes row conjunction = list_all (passes_test row) conjunction.tests
