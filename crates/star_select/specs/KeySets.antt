-- The key sets of a query's ties, and which rows of its fact they select. Source: after Raman et al., ICDE 2008 (star joins by key sets).
use Rattle.std.specs.Prelude.{◌≡◌, ◌<◌, ℕ, Bool, true, ◌&&◌, List, [], map, filter, length, Some, None, slice_index_or}
use Rattle.std.specs.List.{list_all, list_any, zip}
use Rattle.std.specs.Option.{is_some}
use Rattle.blink_base.specs.Values.{Row}
use Rattle.star_sql.specs.declared.ast.Select.{Select}
use Rattle.star_sql.specs.WellFormed.{is_select}
use Rattle.star_meaning.specs.Names.{Scope, Combination}
use Rattle.star_bind.specs.declared.query.ColumnRef.{ColumnRef}
use Rattle.star_bind.specs.declared.query.Query.{Query}
use Rattle.star_bind.specs.declared.query.Tie.{Tie}
use Rattle.star_bind.specs.BoundAnswer.{ref_value}
use Rattle.star_bind.specs.BoundQuery.{Schemas, scope_of, first_refusal, query_of}
use Rattle.star_bind.specs.Joins.{is_wanted, key_at, joined_row}
use Rattle.star_bind.specs.Laws.{may_hold}
use Rattle.code_join.specs.Keys.{Keyed, are_keys}
use Rattle.code_group.specs.Entries.{picked_beside, has_keys}
use Rattle.dim_filter.specs.Entries.{entry_of}
use Rattle.star_select.specs.Picks.{same_ref, named_refs, wanted_columns, tied_columns, pick_of}

-- the rows of a table on which its own condition is true
abbrev pub wanted_rows : Query → List (List Row) → ℕ → List Row
wanted_rows query tables table = filter (is_wanted query table) (slice_index_or tables table [])

-- the keys of a tie with the values that are wanted beside them: of the rows of its dimension on which that dimension's own condition is true
abbrev pub keyed_of : Query → Scope → List (List Row) → Tie → Keyed
keyed_of query scope tables tie = map (entry_of (key_at scope tie.dimension) (wanted_columns query tie.dimension)) (wanted_rows query tables tie.dimension)

-- one per tie
abbrev pub key_maps : Query → Scope → List (List Row) → List Keyed
key_maps query scope tables = map (keyed_of query scope tables) query.ties

-- whether a row of the fact is selected: its own condition is true of it, and each tied value is a key
abbrev pub is_selected : Query → List Keyed → Row → Bool
is_selected query keys row = is_wanted query query.fact row && has_keys (tied_columns query) keys row

-- a well formed query that is accepted, and rows that its tables may hold
pub record MayBeAsked (schemas : Schemas) (s : Select) (tables : List (List Row)) : Type 0 where
  pub formed : is_select s ≡ true
  pub free : first_refusal schemas s ≡ None
  pub sized : length tables ≡ length s.tables
  pub allowed : list_all may_hold (zip (scope_of schemas s) tables) ≡ true

-- The law that a row of the fact has its combination exactly where it is selected.
abbrev pub SelectsByKeys : Type 0
SelectsByKeys = (schemas : Schemas) (s : Select) (tables : List (List Row)) → MayBeAsked schemas s tables → (row : Row)
    → is_some (joined_row (query_of schemas s) (scope_of schemas s) tables row) ≡ is_selected (query_of schemas s) (key_maps (query_of schemas s) (scope_of schemas s) tables) row

-- The law that the pick of a column that items or groups name finds its value in that combination.
abbrev pub PicksByPlace : Type 0
PicksByPlace = (schemas : Schemas) (s : Select) (tables : List (List Row)) → MayBeAsked schemas s tables → (row : Row) (rows : Combination)
    → joined_row (query_of schemas s) (scope_of schemas s) tables row ≡ Some rows
    → (r : ColumnRef) → list_any (same_ref r) (named_refs (query_of schemas s)) ≡ true → r.table < length tables
    → picked_beside (tied_columns (query_of schemas s)) (key_maps (query_of schemas s) (scope_of schemas s) tables) row (pick_of (query_of schemas s) r) ≡ ref_value r rows

-- The law that no key stands twice in the key sets of a query.
abbrev pub KeysOnce : Type 0
KeysOnce = (schemas : Schemas) (s : Select) (tables : List (List Row)) → MayBeAsked schemas s tables → list_all are_keys (key_maps (query_of schemas s) (scope_of schemas s) tables) ≡ true
