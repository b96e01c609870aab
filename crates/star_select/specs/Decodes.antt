-- How many values a query may decode: late decoding reads a column of a selected row alone. Source: after Raman et al., ICDE 2008 (late decoding); the bound is this project's own.
use Rattle.std.specs.Prelude.{◌≡◌, ℕ, ◌+◌, ◌*◌, ◌==◌, ◌≤◌, Bool, true, false, List, [], filter, count_by, sum_by, length, slice_index_or, slice_get, Some}
use Rattle.blink_base.specs.Values.{Row}
use Rattle.blink_lists.specs.Lists.{numbered}
use Rattle.star_sql.specs.declared.ast.Select.{Select}
use Rattle.star_meaning.specs.Names.{Scope}
use Rattle.star_bind.specs.declared.query.Query.{Query}
use Rattle.star_bind.specs.declared.query.Tie.{Tie}
use Rattle.star_bind.specs.BoundQuery.{Schemas, scope_of, query_of}
use Rattle.cell_layout.specs.Image.{TableImage}
use Rattle.code_join.specs.Keys.{Keyed}
use Rattle.code_group.specs.Plans.{fact_key_picks, fact_value_picks}
use Rattle.star_select.specs.CodeSelection.{fact_cells}
use Rattle.star_select.specs.ImageAnswer.{rows_in, image_keys, HasImages}
use Rattle.star_select.specs.KeySets.{wanted_rows, keyed_of, key_maps, is_selected}
use Rattle.star_select.specs.Picks.{named_refs, wanted_columns}
use Rattle.star_select.specs.QueryPlan.{plan_of}

-- the selected rows of a table: of the fact those that the key sets leave, of a dimension those on which its own condition is true
abbrev pub selected_if : Bool → Query → Scope → List (List Row) → ℕ → List Row
selected_if true query scope tables table = filter (is_selected query (key_maps query scope tables)) (slice_index_or tables table [])
selected_if false query scope tables table = wanted_rows query tables table

abbrev pub selected_rows : Query → Scope → List (List Row) → ℕ → List Row
selected_rows query scope tables table = selected_if (table == query.fact) query scope tables table

-- one more place for a dimension: its key
abbrev pub key_places : Bool → ℕ
key_places true = 0
key_places false = 1

-- the places at which items and groups name a column of a table, and one more for a dimension's key
abbrev pub named_places : Query → ℕ → ℕ
named_places query table = count_by (λ r. r.table == table) (named_refs query) + key_places (table == query.fact)

-- how many values a query may decode: per table, a value for each selected row and place
abbrev pub most_decodes : Query → Scope → List (List Row) → ℕ
most_decodes query scope tables = sum_by (λ p. length (selected_rows query scope tables p.0) * named_places query p.0) (numbered scope)

-- how many values are decoded while the keys of a tie are collected: of each selected row of its dimension its key and the wanted columns
abbrev pub tie_decodes : Query → Scope → List (List Row) → Tie → ℕ
tie_decodes query scope tables t = length (keyed_of query scope tables t) * (1 + length (wanted_columns query t.dimension))

-- the same of all ties
abbrev pub key_decodes : Query → Scope → List (List Row) → ℕ
key_decodes query scope tables = sum_by (tie_decodes query scope tables) query.ties

-- how many while the rows of the fact are grouped: of each selected row of a cell the columns that are measured, and of each group those of its key
abbrev pub group_decodes : TableImage → Query → List Keyed → ℕ
group_decodes image query keys = sum_by (λ cell. length cell.1) (fact_cells image query keys) * (fact_value_picks (plan_of query) + fact_key_picks (plan_of query))

-- The law that both are no more than a query may decode.
abbrev pub DecodesAddUp : Type 0
DecodesAddUp =
    (schemas : Schemas) (s : Select) (images : List TableImage) (image : TableImage) → HasImages schemas s images → slice_get images (query_of schemas s).fact ≡ Some image
    → key_decodes (query_of schemas s) (scope_of schemas s) (rows_in images) + group_decodes image (query_of schemas s) (image_keys (query_of schemas s) (scope_of schemas s) images)
    ≤ most_decodes (query_of schemas s) (scope_of schemas s) (rows_in images)
