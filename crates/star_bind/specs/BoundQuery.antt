-- The first refusal of a query, and otherwise the query that it is. Source: ISO/IEC 9075 (name scoping); the order of refusals and the star form are this project's own.
use Rattle.std.specs.Prelude.{ℕ, Bool, true, false, not, List, [], ◌∷◌, map, filter, filter_map, length, Option, Some, None, nat_lt, is_none, option_map, unwrap_or, Result, Ok, Err}
use Rattle.std.specs.List.{list_any}
use Rattle.std.specs.Option.{option_or}
use Rattle.blink_base.specs.declared.schema.Schema.{Schema}
use Rattle.blink_base.specs.declared.refusal.Refusal.{Refusal}
use Rattle.blink_base.specs.declared.refusal.Refusal.TheVariants as refusal
use Rattle.blink_lists.specs.Lists.{numbered, first_of}
use Rattle.star_sql.specs.declared.ast.ColumnName.{ColumnName}
use Rattle.star_sql.specs.declared.ast.Expr.{Expr}
use Rattle.star_sql.specs.declared.ast.Expr.TheVariants.{One, Times, Plus, Minus}
use Rattle.star_sql.specs.declared.ast.What.{What}
use Rattle.star_sql.specs.declared.ast.What.TheVariants as what
use Rattle.star_sql.specs.declared.ast.Select.{Select}
use Rattle.star_meaning.specs.Names.{Scope, FromEntry, ColumnPlace, place_of}
use Rattle.star_meaning.specs.NameRefusals.{name_refusal}
use Rattle.star_meaning.specs.Answer.{line_keys, printed_names}
use Rattle.star_bind.specs.declared.query.Query.{Query}
use Rattle.star_bind.specs.declared.query.ColumnRef.{ColumnRef}
use Rattle.star_bind.specs.declared.query.BoundExpr.{BoundExpr}
use Rattle.star_bind.specs.declared.query.BoundExpr.TheVariants as bound_expr
use Rattle.star_bind.specs.declared.query.BoundItem.{BoundItem}
use Rattle.star_bind.specs.declared.query.BoundItem.TheVariants as bound
use Rattle.star_bind.specs.declared.limits.TheConstants.{MOST_CONJUNCTIONS}
use Rattle.star_bind.specs.StarForm.{fact_of, is_star, ties_of}
use Rattle.star_bind.specs.GroupRule.{is_grouped, has_groups}
use Rattle.star_bind.specs.WrongKind.{has_wrong_kind}
use Rattle.star_bind.specs.Conjunctions.{table_conjunctions}

-- the tables that are there, by name
abbrev pub Schemas : Type 0
Schemas = List ℕ → Option Schema

-- the FROM entry of a name
abbrev pub entry_of : Schemas → List ℕ → Option FromEntry
entry_of schemas name = option_map (λ schema. record { name = name; schema = schema }) (schemas name)

-- the FROM entries of a query whose tables are all there
abbrev pub scope_of : Schemas → Select → Scope
scope_of schemas s = filter_map (entry_of schemas) s.tables

-- tables that aren't there, in the order of the text
abbrev pub unknown_tables : Schemas → Select → List Refusal
unknown_tables schemas s = map refusal.UnknownTable (filter (λ name. is_none (schemas name)) s.tables)

-- whether some table's condition has more
abbrev pub is_wide : Scope → Select → Bool
is_wide scope s = list_any (λ p. nat_lt MOST_CONJUNCTIONS (length (table_conjunctions scope s p.0))) (numbered scope)

-- the first that is there
abbrev pub first_some : List (Option Refusal) → Option Refusal
first_some [] = None
first_some (why ∷ rest) = option_or why (first_some rest)

-- a refusal, where its cause is there
abbrev pub refused_if : Bool → Refusal → Option Refusal
refused_if true why = Some why
refused_if false why = None

-- the first refusal of a query whose tables are all there: of names, of kinds, of the star form, of grouping, of the number of conjunctions
abbrev pub scope_refusal : Scope → Select → Option Refusal
scope_refusal scope s =
    first_some (name_refusal scope s ∷ refused_if (has_wrong_kind scope s) refusal.WrongKind ∷ refused_if (not (is_star scope s)) refusal.NotStar
    ∷ refused_if (not (is_grouped scope s)) refusal.NotGrouped ∷ refused_if (is_wide scope s) refusal.TooManyConjunctions ∷ [])

-- the first refusal: of the tables, and then of all else
unfoldable pub first_refusal : Schemas → Select → Option Refusal
first_refusal schemas s = option_or (first_of (unknown_tables schemas s)) (scope_refusal (scope_of schemas s) s)

-- a place as a query keeps it
abbrev pub ref_of : ColumnPlace → ColumnRef
ref_of p = record { table = p.table; column = p.column }

-- the column that a name means, in a query that is accepted
abbrev pub meant : Scope → ColumnName → ColumnRef
meant scope c = unwrap_or (option_map ref_of (place_of scope c)) (record { table = 0; column = 0 })

-- an expression over the columns that are meant
abbrev pub bound_expr_of : Scope → Expr → BoundExpr
bound_expr_of scope (One a) = bound_expr.One (meant scope a)
bound_expr_of scope (Times a b) = bound_expr.Times (meant scope a) (meant scope b)
bound_expr_of scope (Plus a b) = bound_expr.Plus (meant scope a) (meant scope b)
bound_expr_of scope (Minus a b) = bound_expr.Minus (meant scope a) (meant scope b)

-- an item over the columns that are meant
abbrev pub bound_item_of : Scope → What → BoundItem
bound_item_of scope (what.Column c) = bound.Column (meant scope c)
bound_item_of scope what.Count = bound.Count
bound_item_of scope (what.Sum e) = bound.Sum (bound_expr_of scope e)
bound_item_of scope (what.Avg e) = bound.Average (bound_expr_of scope e)
bound_item_of scope (what.Min c) = bound.Least (meant scope c)
bound_item_of scope (what.Max c) = bound.Greatest (meant scope c)

-- the query over these FROM entries, with this fact
abbrev pub query_in : Scope → Select → ℕ → Query
query_in scope s fact = record {
  tables = s.tables;
  fact = fact;
  ties = ties_of scope s fact;
  filters = map (λ p. table_conjunctions scope s p.0) (numbered scope);
  items = map (λ i. bound_item_of scope i.what) s.items;
  names = printed_names s;
  groups = map (meant scope) s.groups;
  grouped = has_groups s;
  order = map (λ key. record { item = key.item; falling = key.falling }) (line_keys scope s);
  limit = s.limit;
}

-- the query that a statement is, where none of its refusals holds
unfoldable pub query_of : Schemas → Select → Query
query_of schemas s = query_in (scope_of schemas s) s (unwrap_or (fact_of (scope_of schemas s) s) 0)

-- the query, or its first refusal
abbrev pub bound_or_refused : Option Refusal → Schemas → Select → Result Query Refusal
bound_or_refused None schemas s = Ok (query_of schemas s)
bound_or_refused (Some fault) schemas s = Err fault

-- the query that a SELECT is, or its first refusal
abbrev pub bound_of : Schemas → Select → Result Query Refusal
bound_of schemas s = bound_or_refused (first_refusal schemas s) schemas s
