-- The answer to a query by groups of the selected rows of its fact. Source: ISO/IEC 9075 (GROUP BY clause) for the answer; groups by picks are this project's own.
use Rattle.std.specs.Prelude.{◌≡◌, Bool, true, false, ◌||◌, List, [], None, filter, slice_index_or}
use Rattle.std.specs.List.{list_all, list_any}
use Rattle.blink_base.specs.declared.answer.Answer.{Answer}
use Rattle.blink_base.specs.Values.{Row}
use Rattle.blink_lists.specs.Rearrangement.{Rearranged}
use Rattle.star_sql.specs.declared.ast.Select.{Select}
use Rattle.star_meaning.specs.Answer.{answer}
use Rattle.star_bind.specs.declared.query.ColumnRef.{ColumnRef}
use Rattle.star_bind.specs.declared.query.BoundItem.{BoundItem}
use Rattle.star_bind.specs.declared.query.BoundItem.TheVariants.{Column, Count, Sum, Average, Least, Greatest}
use Rattle.star_bind.specs.declared.query.Query.{Query}
use Rattle.star_bind.specs.BoundQuery.{Schemas, scope_of, first_refusal, query_of}
use Rattle.code_join.specs.Keys.{Keyed}
use Rattle.code_group.specs.Entries.{picked_beside}
use Rattle.late_decode.specs.Groups.{Grouped}
use Rattle.late_decode.specs.GroupLines.{finished}
use Rattle.late_decode.specs.PlannedRows.{groups_by_plan}
use Rattle.star_select.specs.KeySets.{key_maps, is_selected, MayBeAsked}
use Rattle.star_select.specs.Picks.{same_ref, tied_columns}
use Rattle.star_select.specs.QueryPlan.{has_total, plan_of, finish_of}

-- the groups of rows of the fact, by the plan of the query
abbrev pub groups_of : Query → List Keyed → List Row → Grouped Row
groups_of query keys rows = groups_by_plan (plan_of query) (picked_beside (tied_columns query) keys) rows

-- the answer that groups give
abbrev pub answer_of_groups : Query → Grouped Row → Answer
answer_of_groups query groups = finished (plan_of query).measures (finish_of query) groups

-- whether an item may stand where rows are grouped by these columns: it is an aggregate, or one of them
abbrev pub stands_in : List ColumnRef → BoundItem → Bool
stands_in groups (Column r) = list_any (same_ref r) groups
stands_in groups Count = true
stands_in groups (Sum e) = true
stands_in groups (Average e) = true
stands_in groups (Least r) = true
stands_in groups (Greatest r) = true

-- columns are grouped by only where GROUP BY stands, and where it or an aggregate does each item may stand there
pub record IsGrouped (query : Query) : Type 0 where
  pub none : query.grouped ≡ false → query.groups ≡ []
  pub stand : (query.grouped || has_total query) ≡ true → list_all (stands_in query.groups) query.items ≡ true

-- The law that a query that is accepted is grouped so.
abbrev pub QueriesAreGrouped : Type 0
QueriesAreGrouped = (schemas : Schemas) (s : Select) → first_refusal schemas s ≡ None → IsGrouped (query_of schemas s)

-- The law that the answer to a query is that of the groups of the selected rows of its fact, in whatever order these are taken.
abbrev pub AnswersByGroups : Type 0
AnswersByGroups =
    (schemas : Schemas) (s : Select) (tables : List (List Row)) → MayBeAsked schemas s tables → (taken : List Row)
    → Rearranged (filter (is_selected (query_of schemas s) (key_maps (query_of schemas s) (scope_of schemas s) tables)) (slice_index_or tables (query_of schemas s).fact [])) taken
    → answer (scope_of schemas s) s tables
    ≡ answer_of_groups (query_of schemas s) (groups_of (query_of schemas s) (key_maps (query_of schemas s) (scope_of schemas s) tables) taken)
