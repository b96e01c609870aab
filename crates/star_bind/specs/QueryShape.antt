-- What holds of the parts of a query that is accepted: its numbers are in range of its tables, and its conditions are few. Source: this project's own.
use Rattle.std.specs.Prelude.{◌≡◌, ◌<◌, ℕ, Bool, true, false, not, ◌&&◌, ◌==◌, List, [], ◌∷◌, map, length, nat_le, nat_lt, Option, Some, None, slice_get}
use Rattle.std.specs.List.{list_all, zip}
use Rattle.std.specs.Option.{option_map_or, is_some}
use Rattle.blink_base.specs.declared.value.Kind.{Kind}
use Rattle.blink_base.specs.declared.value.Kind.TheVariants as kind
use Rattle.blink_base.specs.Values.{same_kind}
use Rattle.blink_lists.specs.Lists.{are_distinct}
use Rattle.star_sql.specs.declared.ast.Select.{Select}
use Rattle.star_sql.specs.WellFormed.{is_select}
use Rattle.star_meaning.specs.Names.{Scope, FromEntry, column_at}
use Rattle.star_bind.specs.declared.query.Query.{Query}
use Rattle.star_bind.specs.declared.query.ColumnRef.{ColumnRef}
use Rattle.star_bind.specs.declared.query.ColumnTest.{ColumnTest}
use Rattle.star_bind.specs.declared.query.Conjunction.{Conjunction}
use Rattle.star_bind.specs.declared.query.Tie.{Tie}
use Rattle.star_bind.specs.declared.query.BoundExpr.{BoundExpr}
use Rattle.star_bind.specs.declared.query.BoundExpr.TheVariants.{One, Times, Plus, Minus}
use Rattle.star_bind.specs.declared.query.BoundItem.{BoundItem}
use Rattle.star_bind.specs.declared.query.BoundItem.TheVariants.{Column, Count, Sum, Average, Least, Greatest}
use Rattle.star_bind.specs.declared.limits.TheConstants.{MOST_CONJUNCTIONS}
use Rattle.star_bind.specs.BoundQuery.{Schemas, scope_of, first_refusal, query_of}

-- how many columns the table at a place has
abbrev pub column_count : Scope → ℕ → ℕ
column_count scope table = option_map_or (λ entry. length entry.schema.columns) (slice_get scope table) 0

-- whether a column is there
abbrev pub is_ref : Scope → ColumnRef → Bool
is_ref scope r = is_some (column_at scope (record { table = r.table; column = r.column }))

-- whether a column is there and is one of whole numbers
abbrev pub is_number_ref : Scope → ColumnRef → Bool
is_number_ref scope r = option_map_or (λ c. same_kind c.kind kind.Int) (column_at scope (record { table = r.table; column = r.column })) false

-- whether an expression takes columns of whole numbers
abbrev pub is_number_expr : Scope → BoundExpr → Bool
is_number_expr scope (One a) = is_number_ref scope a
is_number_expr scope (Times a b) = is_number_ref scope a && is_number_ref scope b
is_number_expr scope (Plus a b) = is_number_ref scope a && is_number_ref scope b
is_number_expr scope (Minus a b) = is_number_ref scope a && is_number_ref scope b

-- whether an item takes columns that are there, and sums and averages those of whole numbers
abbrev pub is_item : Scope → BoundItem → Bool
is_item scope (Column r) = is_ref scope r
is_item scope Count = true
is_item scope (Sum e) = is_number_expr scope e
is_item scope (Average e) = is_number_expr scope e
is_item scope (Least r) = is_ref scope r
is_item scope (Greatest r) = is_ref scope r

-- whether a tie goes from a column of the fact to another table that is there and has a key
abbrev pub is_tie : Scope → ℕ → Tie → Bool
is_tie scope fact t =
    nat_lt t.column (column_count scope fact) && not (t.dimension == fact) && option_map_or (λ entry. is_some entry.schema.key) (slice_get scope t.dimension) false

-- whether the tests of a conjunction are of columns of a table of so many, and of no column twice
abbrev pub is_conjunction : ℕ → Conjunction → Bool
is_conjunction columns c = list_all (λ t. nat_lt t.column columns) c.tests && are_distinct (λ x y. x == y) (map (λ t. t.column) c.tests)

-- whether a condition on a table of so many columns is 1 to 64 such conjunctions
abbrev pub is_condition_on : ℕ → List Conjunction → Bool
is_condition_on columns cs = nat_lt 0 (length cs) && nat_le (length cs) MOST_CONJUNCTIONS && list_all (is_conjunction columns) cs

-- the parts of a query over these FROM entries
pub record HasShape (scope : Scope) (query : Query) : Type 0 where
  pub tables : length query.tables ≡ length scope
  pub fact : query.fact < length scope
  pub ties : list_all (is_tie scope query.fact) query.ties ≡ true
  pub as_many : length query.filters ≡ length scope
  pub filters : list_all (λ p. is_condition_on (length p.0.schema.columns) p.1) (zip scope query.filters) ≡ true
  pub items : list_all (is_item scope) query.items ≡ true
  pub names : length query.names ≡ length query.items
  pub groups : list_all (is_ref scope) query.groups ≡ true
  pub order : list_all (λ o. nat_lt o.item (length query.items)) query.order ≡ true

-- The law that a well formed query that is accepted has such parts.
abbrev pub QueriesHaveShape : Type 0
QueriesHaveShape = (schemas : Schemas) (s : Select) → is_select s ≡ true → first_refusal schemas s ≡ None → HasShape (scope_of schemas s) (query_of schemas s)
