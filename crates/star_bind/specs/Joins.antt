-- A star join: beside a row of the fact stands, of each dimension, the one row that is wanted and has the tied key. Source: ISO/IEC 9075 for what is kept; the star form is this project's own.
use Rattle.std.specs.Prelude.{◌≡◌, ℕ, Bool, true, false, ◌==◌, List, [], map, filter, filter_map, length, Option, Some, None, slice_index_or, slice_get, if◌then◌else◌}
use Rattle.std.specs.List.{list_any, list_all, zip}
use Rattle.std.specs.Option.{option_and_then, option_map_or}
use Rattle.blink_base.specs.Values.{Row}
use Rattle.blink_lists.specs.Lists.{numbered}
use Rattle.blink_lists.specs.Rearrangement.{Rearranged}
use Rattle.star_sql.specs.declared.ast.Select.{Select}
use Rattle.star_meaning.specs.Names.{Scope, FromEntry, Combination}
use Rattle.star_meaning.specs.Truth.{kept}
use Rattle.star_bind.specs.declared.query.Query.{Query}
use Rattle.star_bind.specs.declared.query.Conjunction.{Conjunction}
use Rattle.star_bind.specs.Conjunctions.{passes}
use Rattle.star_bind.specs.BoundQuery.{Schemas, scope_of, first_refusal, query_of}
use Rattle.star_bind.specs.Laws.{tie_of, tied_row, may_hold}
use Rattle.blink_lists.specs.Products.{all_there}

-- the conjunctions of the table at a place
abbrev pub filters_at : Query → ℕ → List Conjunction
filters_at query table = slice_index_or query.filters table []

-- whether a table's own condition is true of a row: it passes some conjunction
abbrev pub is_wanted : Query → ℕ → Row → Bool
is_wanted query table row = list_any (passes row) (filters_at query table)

-- the column of a table's key
abbrev pub key_in : Option ℕ → ℕ
key_in None = 0
key_in (Some k) = k

abbrev pub key_at : Scope → ℕ → ℕ
key_at scope table = option_map_or (λ e. key_in e.schema.key) (slice_get scope table) 0

-- the row that a table gives beside a row of the fact: that row itself where it is wanted, or the wanted one that has the key of its tie
abbrev pub wanted_if : Query → Row → ℕ → FromEntry × List Row → Bool → Option Row
wanted_if query row table entry true = if is_wanted query table row then Some row else None
wanted_if query row table entry false = option_and_then (tied_row (entry.0, filter (is_wanted query table) entry.1) row) (tie_of query table)

abbrev pub wanted_beside : Query → Row → ℕ × (FromEntry × List Row) → Option Row
wanted_beside query row (table, entry) = wanted_if query row table entry (table == query.fact)

-- the one combination of a row of the fact, where that row is wanted and each dimension has a wanted row of its key
abbrev pub joined_row : Query → Scope → List (List Row) → Row → Option Combination
joined_row query scope tables row = all_there (map (wanted_beside query row) (numbered (zip scope tables)))

-- The law of a star join: what a query that is accepted keeps is, of each row of its fact, that one combination where it is there.
abbrev pub JoinsByKeys : Type 0
JoinsByKeys =
    (schemas : Schemas) (s : Select) (tables : List (List Row)) → first_refusal schemas s ≡ None → length tables ≡ length s.tables
    → list_all may_hold (zip (scope_of schemas s) tables) ≡ true
    → Rearranged (kept (scope_of schemas s) s.condition tables)
    (filter_map (joined_row (query_of schemas s) (scope_of schemas s) tables) (slice_index_or tables (query_of schemas s).fact []))
