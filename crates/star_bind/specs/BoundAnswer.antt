-- The answer to a bound query over the combinations that it keeps. Source: ISO/IEC 9075 (GROUP BY clause, set functions, ORDER BY); the order of ties and LIMIT are this project's own.
use Rattle.std.specs.Prelude.{◌≡◌, ℕ, Bool, true, false, List, [], ◌∷◌, map, None, length, ℤ, pos, ◌+ℤ◌, ◌-ℤ◌, ◌*ℤ◌}
use Rattle.std.specs.List.{list_any}
use Rattle.blink_base.specs.declared.answer.Answer.{Answer}
use Rattle.blink_base.specs.declared.answer.Field.{Field}
use Rattle.blink_base.specs.declared.answer.Field.TheVariants as field
use Rattle.blink_base.specs.declared.value.Value.{Value}
use Rattle.blink_base.specs.Values.{Row, number_in}
use Rattle.blink_base.specs.Lines.{Line, least_field, greatest_field, sum_field, average_field, printed_lines}
use Rattle.star_sql.specs.declared.ast.Select.{Select}
use Rattle.star_meaning.specs.Names.{Combination, value_at}
use Rattle.star_meaning.specs.Truth.{kept}
use Rattle.star_meaning.specs.Groups.{groups_by}
use Rattle.star_meaning.specs.Answer.{answer}
use Rattle.star_bind.specs.declared.query.Query.{Query}
use Rattle.star_bind.specs.declared.query.ColumnRef.{ColumnRef}
use Rattle.star_bind.specs.declared.query.BoundExpr.{BoundExpr}
use Rattle.star_bind.specs.declared.query.BoundExpr.TheVariants.{One, Times, Plus, Minus}
use Rattle.star_bind.specs.declared.query.BoundItem.{BoundItem}
use Rattle.star_bind.specs.declared.query.BoundItem.TheVariants.{Column, Count, Sum, Average, Least, Greatest}
use Rattle.star_bind.specs.BoundQuery.{Schemas, scope_of, first_refusal, query_of}

-- the value of a column in a combination
abbrev pub ref_value : ColumnRef → Combination → Value
ref_value r rows = value_at rows (record { table = r.table; column = r.column })

-- the number of an expression in a combination
abbrev pub bound_number : BoundExpr → Combination → ℤ
bound_number (One a) rows = number_in (ref_value a rows)
bound_number (Times a b) rows = number_in (ref_value a rows) *ℤ number_in (ref_value b rows)
bound_number (Plus a b) rows = number_in (ref_value a rows) +ℤ number_in (ref_value b rows)
bound_number (Minus a b) rows = number_in (ref_value a rows) -ℤ number_in (ref_value b rows)

-- the value of an item over a group
abbrev pub bound_value : BoundItem → List Combination → Field
bound_value (Column r) group = least_field (map (ref_value r) group)
bound_value Count group = field.Number (pos (length group))
bound_value (Sum e) group = sum_field (map (bound_number e) group)
bound_value (Average e) group = average_field (map (bound_number e) group)
bound_value (Least r) group = least_field (map (ref_value r) group)
bound_value (Greatest r) group = greatest_field (map (ref_value r) group)

-- whether an item is an aggregate
abbrev pub is_total : BoundItem → Bool
is_total (Column r) = false
is_total Count = true
is_total (Sum e) = true
is_total (Average e) = true
is_total (Least r) = true
is_total (Greatest r) = true

-- the tuple of the grouping columns
abbrev pub bound_key : List ColumnRef → Combination → Row
bound_key refs rows = map (λ r. ref_value r rows) refs

-- what each line stands for: with GROUP BY a group, with aggregates alone all combinations, and else one of them
abbrev pub bound_groups : Bool → Bool → List ColumnRef → List Combination → List (List Combination)
bound_groups true total refs rows = groups_by (bound_key refs) rows
bound_groups false true refs rows = rows ∷ []
bound_groups false false refs rows = map (λ r. r ∷ []) rows

-- the line of a group
abbrev pub bound_line : List BoundItem → List Combination → Line
bound_line items group = map (λ i. bound_value i group) items

-- the answer over the combinations that are kept
unfoldable pub bound_answer : Query → List Combination → Answer
bound_answer query rows = record {
  names = query.names;
  lines = printed_lines (map (λ o. record { item = o.item; falling = o.falling }) query.order) query.limit
      (map (bound_line query.items) (bound_groups query.grouped (list_any is_total query.items) query.groups rows));
}

-- The law that the answer to a query that is accepted is that of the query that it is.
abbrev pub AnswersAsBound : Type 0
AnswersAsBound =
    (schemas : Schemas) (s : Select) (tables : List (List Row)) → first_refusal schemas s ≡ None
    → answer (scope_of schemas s) s tables ≡ bound_answer (query_of schemas s) (kept (scope_of schemas s) s.condition tables)
