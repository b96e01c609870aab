-- Branches of a condition as the code holds them: the conjunction of a branch over one column is made when it is wanted. Source: this project's own.
use Rattle.std.specs.Prelude.{ℕ, ◌==◌, ◌^◌, ◌-◌, List, [], ◌∷◌, ◌++◌, map, flat_map, nat_lt, Option, Some, None, option_map, if◌then◌else◌}
use Rattle.std.specs.Option.{option_map_or}
use Rattle.blink_base.specs.declared.test.Test.{Test}
use Rattle.blink_base.specs.declared.tree.Tree.{Tree, Leaf, All, Any}
use Rattle.blink_lists.specs.Lists.{joined, once_each}
use Rattle.star_sql.specs.declared.ast.TestWords.{TestWords}
use Rattle.star_sql.specs.Literals.{test_of, column_of}
use Rattle.star_meaning.specs.Names.{Scope, place_of, kind_at}
use Rattle.star_bind.specs.declared.conditions.branch.Branch.{Branch}
use Rattle.star_bind.specs.declared.query.ColumnTest.{ColumnTest}
use Rattle.star_bind.specs.Conjunctions.{Tests, merged}

-- a column's number in 32 bits, in which each column of a table has one
abbrev pub number_of : ℕ → ℕ
number_of k = if nat_lt k (2 ^ 32) then k else 2 ^ 32 - 1

-- the conjunctions over these columns: the one over one column, and else those that are made
abbrev pub made_over : List ℕ → Tree → List Tests → List Tests
made_over (k ∷ []) tree made = (record { column = number_of k; tree = tree } ∷ []) ∷ []
made_over ks tree made = made

-- the conjunctions of a branch
abbrev pub made_of : Branch → List Tests
made_of b = made_over b.columns b.tree b.conjunctions

-- conjunctions, where they aren't over one column
abbrev pub if_several : List ℕ → List Tests → List Tests
if_several (k ∷ []) made = []
if_several ks made = made

-- the columns of several branches, each once
abbrev pub branch_columns : List Branch → List ℕ
branch_columns parts = once_each (λ x y. x == y) (joined (map (λ p. p.columns) parts))

-- each of some rows of tests, with each of some conjunctions behind it
abbrev pub followed : List Tests → List Tests → List Tests
followed rows made = flat_map (λ row. map (λ tests. row ++ tests) made) rows

-- rows of tests, with a conjunction of each list behind them, the first list varying slowest
abbrev pub spread : List Tests → List (List Tests) → List Tests
spread rows [] = rows
spread rows (made ∷ lists) = spread (followed rows made) lists

-- an AND
abbrev pub branch_every : List Branch → Branch
branch_every parts = record {
  columns = branch_columns parts;
  tree = All (map (λ p. p.tree) parts);
  conjunctions = if_several (branch_columns parts) (map merged (spread ([] ∷ []) (map made_of parts)));
}

-- an OR
abbrev pub branch_some : List Branch → Branch
branch_some parts = record {
  columns = branch_columns parts;
  tree = Any (map (λ p. p.tree) parts);
  conjunctions = if_several (branch_columns parts) (joined (map made_of parts));
}

-- a test of a column, where both are there
abbrev pub branch_leaf : Option ℕ → Option Test → Branch
branch_leaf (Some k) (Some t) = record { columns = k ∷ []; tree = Leaf t; conjunctions = [] }
branch_leaf (Some k) None = record { columns = []; tree = Any []; conjunctions = [] }
branch_leaf None t = record { columns = []; tree = Any []; conjunctions = [] }

-- a test as written
abbrev pub branch_test : Scope → TestWords → Branch
branch_test scope words =
    let place = place_of scope (column_of words) in
    branch_leaf (option_map (λ p. p.column) place) (option_map_or (λ p. test_of (kind_at scope p) words) place None)
