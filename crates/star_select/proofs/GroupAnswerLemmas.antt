-- The answer to a query is that of the groups of the selected rows of its fact.
use Rattle.std.proofs.Common.{◌≡◌, ◌<◌, ℕ, Bool, true, List, [], map, filter, length, Option, slice_index_or, refl, sym, ap, ◌∙◌, subst}
use Rattle.std.specs.Prelude.{filter_map}
use Rattle.std.specs.List.{list_all, list_any}
use Rattle.std.specs.Option.{is_some}
use Rattle.blink_base.specs.Values.{Row, same_row}
use Rattle.blink_base.specs.Lines.{LinesInAnyOrder, TotalsInAnyOrder, TellsRows}
use Rattle.blink_lists.specs.Groups.{with_key}
use Rattle.blink_lists.specs.Lists.{once_each}
use Rattle.blink_lists.specs.Rearrangement.{Rearranged}
use Rattle.blink_lists.specs.Rearrangement.Rearranged.{followed}
use Rattle.blink_lists.proofs.AllLemmas.{all-passing, all-rearranged}
use Rattle.blink_lists.proofs.GroupLemmas.{both, filter-alike}
use Rattle.blink_lists.proofs.ProductLemmas.{filter-map}
use Rattle.star_sql.specs.declared.ast.Select.{Select}
use Rattle.star_meaning.specs.Names.{Scope, Combination}
use Rattle.star_meaning.specs.Answer.{answer}
use Rattle.star_bind.specs.declared.query.ColumnRef.{ColumnRef}
use Rattle.star_bind.specs.declared.query.Query.{Query}
use Rattle.star_bind.specs.BoundAnswer.{ref_value, bound_answer, AnswersAsBound}
use Rattle.star_bind.specs.BoundQuery.{Schemas, scope_of, query_of}
use Rattle.star_bind.specs.Joins.{joined_row, JoinsByKeys}
use Rattle.star_bind.specs.QueryShape.{is_ref, QueriesHaveShape}
use Rattle.code_join.specs.Keys.{Keyed}
use Rattle.code_group.specs.Entries.{picked_beside}
use Rattle.late_decode.specs.declared.plan.GroupPlan.{GroupPlan}
use Rattle.late_decode.specs.Parts.{Picked, parts_over}
use Rattle.late_decode.specs.PlannedRows.{key_of, groups_by_plan}
use Rattle.star_select.specs.GroupAnswer.{groups_of, answer_of_groups, QueriesAreGrouped, AnswersByGroups}
use Rattle.star_select.specs.KeySets.{key_maps, is_selected, MayBeAsked, SelectsByKeys, PicksByPlace}
use Rattle.star_select.specs.Picks.{same_ref, named_refs, pick_of, tied_columns}
use Rattle.star_select.specs.QueryPlan.{plan_of}
use Rattle.star_select.proofs.CombinationOrderLemmas.{answer-rearranged}
use Rattle.star_select.proofs.GroupLineLemmas.{map-map, map-alike}
use Rattle.star_select.proofs.QueryLineLemmas.{answer-is}
use Rattle.star_select.proofs.JoinedRowLemmas.{Found, all_found, founds-are, finders-are, found-only, found-rearranged}
use Rattle.star_select.proofs.ListLemmas.{all-pass}
use Rattle.star_select.proofs.NamedColumnLemmas.{is_named, all-named, ref-within}

-- groups of elements are those of what they stand for
groups-of-map : {X Y : Type 0} (plan : GroupPlan) (f : Y → X) (picked : X → Picked) (ys : List Y) → groups_by_plan plan (λ y. picked (f y)) ys ≡ groups_by_plan plan picked (map f ys)
groups-of-map {X} {Y} plan f picked ys =
    let key : X → Row = λ x. key_of plan.keys (picked x) in
    sym (ap (λ ks. map (λ k. (k, parts_over plan.measures (map picked (with_key same_row key (map f ys) k)))) (once_each same_row ks)) (map-map key f ys)
    ∙ map-alike (λ k. (k, parts_over plan.measures (map picked (with_key same_row key (map f ys) k)))) (λ k. (k, parts_over plan.measures (map (λ y. picked (f y)) (with_key same_row (λ y. key (f y)) ys k))))
    (λ k i. (k, parts_over plan.measures ((ap (map picked) (filter-map (λ x. same_row k (key x)) f ys) ∙ map-map picked f (filter (λ y. same_row k (key (f y))) ys)) i)))
    (once_each same_row (map (λ y. key (f y)) ys)))

-- a query has the tables of its statement
pub names-as-many : (schemas : Schemas) (s : Select) → length (query_of schemas s).tables ≡ length s.tables
unfolding query_of
names-as-many schemas s = refl

-- by the laws of lines, totals and rows, and those of bound queries
module _ (printed : LinesInAnyOrder) (totals : TotalsInAnyOrder) (tells : TellsRows) (as_bound : AnswersAsBound) (joins : JoinsByKeys) (shaped : QueriesHaveShape)
    (grouped : QueriesAreGrouped) (by_keys : SelectsByKeys) (by_place : PicksByPlace) where
  module _ (schemas : Schemas) (s : Select) (tables : List (List Row)) (asked : MayBeAsked schemas s tables) where
    abbrev scope : Scope
    scope = scope_of schemas s

    abbrev query : Query
    query = query_of schemas s

    abbrev keys : List Keyed
    keys = key_maps (query_of schemas s) (scope_of schemas s) tables

    abbrev joined : Row → Option Combination
    joined = joined_row (query_of schemas s) (scope_of schemas s) tables

    abbrev picked : Row → Picked
    picked = picked_beside (tied_columns (query_of schemas s)) (key_maps (query_of schemas s) (scope_of schemas s) tables)

    shorter : (n : ℕ) → n < length (scope_of schemas s) → n < length tables
    shorter n l = subst (λ m. n < m) (sym (asked.sized ∙ sym (names-as-many schemas s) ∙ (shaped schemas s asked.formed asked.free).tables)) l

    value-is : (r : ColumnRef) → is_named scope query r ≡ true → (p : Found joined) → picked p.0 (pick_of query r) ≡ ref_value r p.1
    value-is r h p =
        let b = both (list_any (same_ref r) (named_refs query)) (is_ref scope r) h in
        by_place schemas s tables asked p.0 p.1 p.2 r b.0 (shorter r.table (ref-within scope r b.1))

    -- rows that have their combinations
    answer-over : (rows : List Row) → bound_answer query (filter_map joined rows) ≡ answer_of_groups query (groups_of query keys (filter (λ row. is_some (joined row)) rows))
    answer-over rows =
        let named = all-named scope query (shaped schemas s asked.formed asked.free) in
        ap (bound_answer query) (sym (founds-are joined rows))
        ∙ answer-is query (λ (p : Found joined). p.1) (λ (p : Found joined). picked p.0) (is_named scope query) value-is tells (grouped schemas s asked.free) named.0 named.1 printed (all_found joined rows)
        ∙ ap (answer_of_groups query) (groups-of-map (plan_of query) (λ (p : Found joined). p.0) picked (all_found joined rows) ∙ ap (groups_of query keys) (finders-are joined rows))

    answer-grouped : (taken : List Row) → Rearranged (filter (is_selected query keys) (slice_index_or tables query.fact [])) taken → answer scope s tables ≡ answer_of_groups query (groups_of query keys taken)
    answer-grouped taken order =
        let fact : List Row = slice_index_or tables query.fact [] in
        let passes : Row → Bool = λ row. is_some (joined row) in
        let selected : filter (is_selected query keys) fact ≡ filter passes fact = filter-alike (is_selected query keys) passes (λ row. sym (by_keys schemas s tables asked row)) fact in
        let same : Rearranged (filter passes fact) taken = subst (λ l. Rearranged l taken) selected order in
        let all : list_all passes taken ≡ true = sym (all-rearranged passes same) ∙ all-passing passes fact in
        let found : Rearranged (filter_map joined fact) (filter_map joined taken) = subst (λ l. Rearranged l (filter_map joined taken)) (found-only joined fact) (found-rearranged joined same) in
        as_bound schemas s tables asked.free
        ∙ answer-rearranged totals tells printed query (followed (joins schemas s tables asked.free asked.sized asked.allowed) found)
        ∙ answer-over taken
        ∙ ap (λ l. answer_of_groups query (groups_of query keys l)) (all-pass passes taken all)

  pub answers_by_groups : AnswersByGroups
  answers_by_groups schemas s tables asked taken order = answer-grouped schemas s tables asked taken order
