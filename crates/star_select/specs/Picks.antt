-- The columns that a query names, and where the value of each is found beside a row of its fact. Source: this project's own.
use Rattle.std.specs.Prelude.{ℕ, ◌==◌, Bool, true, false, ◌&&◌, List, [], ◌∷◌, ◌++◌, map, filter, flat_map}
use Rattle.std.specs.List.{position_or_len}
use Rattle.blink_lists.specs.Lists.{once_each}
use Rattle.star_bind.specs.declared.query.ColumnRef.{ColumnRef}
use Rattle.star_bind.specs.declared.query.BoundExpr.{BoundExpr}
use Rattle.star_bind.specs.declared.query.BoundExpr.TheVariants.{One, Times, Plus, Minus}
use Rattle.star_bind.specs.declared.query.BoundItem.{BoundItem}
use Rattle.star_bind.specs.declared.query.BoundItem.TheVariants.{Column, Count, Sum, Average, Least, Greatest}
use Rattle.star_bind.specs.declared.query.Query.{Query}
use Rattle.late_decode.specs.declared.plan.Pick.{Pick}
use Rattle.late_decode.specs.declared.plan.Pick.TheVariants.{Fact, Dimension}

-- the columns that an expression names
abbrev pub expr_refs : BoundExpr → List ColumnRef
expr_refs (One a) = a ∷ []
expr_refs (Times a b) = a ∷ b ∷ []
expr_refs (Plus a b) = a ∷ b ∷ []
expr_refs (Minus a b) = a ∷ b ∷ []

-- the columns that an item names
abbrev pub item_refs : BoundItem → List ColumnRef
item_refs (Column r) = r ∷ []
item_refs Count = []
item_refs (Sum e) = expr_refs e
item_refs (Average e) = expr_refs e
item_refs (Least r) = r ∷ []
item_refs (Greatest r) = r ∷ []

-- the columns that items and groups name, in the order of the text
abbrev pub named_refs : Query → List ColumnRef
named_refs query = flat_map item_refs query.items ++ query.groups

-- whether two columns are one
abbrev pub same_ref : ColumnRef → ColumnRef → Bool
same_ref a b = a.table == b.table && a.column == b.column

-- the columns of a dimension that are wanted beside its key, each once
abbrev pub wanted_columns : Query → ℕ → List ℕ
wanted_columns query table = once_each (λ x y. x == y) (map (λ r. r.column) (filter (λ r. r.table == table) (named_refs query)))

-- the tied columns of the fact
abbrev pub tied_columns : Query → List ℕ
tied_columns query = map (λ t. t.column) query.ties

-- the place of the tie that leads to a dimension
abbrev pub tie_place : Query → ℕ → ℕ
tie_place query table = position_or_len (λ t. t.dimension == table) query.ties

-- the place of a column of a dimension among the wanted ones
abbrev pub wanted_place : Query → ColumnRef → ℕ
wanted_place query r = position_or_len (λ c. c == r.column) (wanted_columns query r.table)

-- the pick of a column: of the fact, or of a dimension
abbrev pub pick_if : Bool → Query → ColumnRef → Pick
pick_if true query r = Fact r.column
pick_if false query r = Dimension (tie_place query r.table) (wanted_place query r)

-- where the value of a column is found beside a row of the fact: in that row, or by the tie of the column's table and its place among the wanted columns
abbrev pub pick_of : Query → ColumnRef → Pick
pick_of query r = pick_if (r.table == query.fact) query r
