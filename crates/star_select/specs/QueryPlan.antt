-- How a bound query is grouped and measured, and how its groups give lines. Source: ISO/IEC 9075 (GROUP BY clause, set functions); the plan is this project's own.
use Rattle.std.specs.Prelude.{ℕ, Bool, true, false, ◌&&◌, ◌||◌, not, List, [], ◌∷◌, map}
use Rattle.std.specs.List.{list_any, position_or_len}
use Rattle.blink_lists.specs.Lists.{numbered, numbered_from}
use Rattle.star_bind.specs.declared.query.ColumnRef.{ColumnRef}
use Rattle.star_bind.specs.declared.query.BoundExpr.{BoundExpr}
use Rattle.star_bind.specs.declared.query.BoundExpr.TheVariants as expr
use Rattle.star_bind.specs.declared.query.BoundItem.{BoundItem}
use Rattle.star_bind.specs.declared.query.BoundItem.TheVariants as item
use Rattle.star_bind.specs.declared.query.Query.{Query}
use Rattle.star_bind.specs.BoundAnswer.{is_total}
use Rattle.late_decode.specs.declared.plan.Pick.{Pick}
use Rattle.late_decode.specs.declared.plan.Pick.TheVariants.{Fact}
use Rattle.late_decode.specs.declared.plan.Formula.{Formula}
use Rattle.late_decode.specs.declared.plan.Formula.TheVariants as formula
use Rattle.late_decode.specs.declared.plan.Measure.{Measure}
use Rattle.late_decode.specs.declared.plan.Measure.TheVariants as measure
use Rattle.late_decode.specs.declared.plan.Slot.{Slot}
use Rattle.late_decode.specs.declared.plan.Slot.TheVariants as slot
use Rattle.late_decode.specs.declared.plan.GroupPlan.{GroupPlan}
use Rattle.late_decode.specs.declared.plan.Finish.{Finish}
use Rattle.star_select.specs.Picks.{same_ref, pick_of, tied_columns}

-- whether some item is an aggregate
abbrev pub has_total : Query → Bool
has_total query = list_any is_total query.items

-- whether a line stands for a row: there is no GROUP BY and no aggregate
abbrev pub is_plain : Query → Bool
is_plain query = not (query.grouped || has_total query)

-- whether one line stands for all rows
abbrev pub is_single : Query → Bool
is_single query = not query.grouped && has_total query

-- an expression over picks
abbrev pub formula_of : Query → BoundExpr → Formula
formula_of query (expr.One a) = formula.One (pick_of query a)
formula_of query (expr.Times a b) = formula.Times (pick_of query a) (pick_of query b)
formula_of query (expr.Plus a b) = formula.Plus (pick_of query a) (pick_of query b)
formula_of query (expr.Minus a b) = formula.Minus (pick_of query a) (pick_of query b)

-- what is measured for an item; a bare column is read of the key, and only counted
abbrev pub measure_of : Query → BoundItem → Measure
measure_of query (item.Column r) = measure.Count
measure_of query item.Count = measure.Count
measure_of query (item.Sum e) = measure.Sum (formula_of query e)
measure_of query (item.Average e) = measure.Average (formula_of query e)
measure_of query (item.Least r) = measure.Least (pick_of query r)
measure_of query (item.Greatest r) = measure.Greatest (pick_of query r)

-- the pick of an item that is a bare column; an aggregate is never asked for one
abbrev pub item_pick : Query → BoundItem → Pick
item_pick query (item.Column r) = pick_of query r
item_pick query item.Count = Fact 0
item_pick query (item.Sum e) = Fact 0
item_pick query (item.Average e) = Fact 0
item_pick query (item.Least r) = Fact 0
item_pick query (item.Greatest r) = Fact 0

-- the keys of groups: the items of a plain query, and else the grouping columns
abbrev pub keys_if : Bool → Query → List Pick
keys_if true query = map (item_pick query) query.items
keys_if false query = map (pick_of query) query.groups

-- the measures of groups: the count first, and then one per item unless the query is plain
abbrev pub measures_if : Bool → Query → List Measure
measures_if true query = measure.Count ∷ []
measures_if false query = measure.Count ∷ map (measure_of query) query.items

-- the place of a column among those that are grouped by
abbrev pub group_place : List ColumnRef → ColumnRef → ℕ
group_place groups r = position_or_len (same_ref r) groups

-- what stands at an item's place, with its number counted from 1: the grouping column that it is, or its measure
abbrev pub slot_of : List ColumnRef → ℕ → BoundItem → Slot
slot_of groups n (item.Column r) = slot.Key (group_place groups r)
slot_of groups n item.Count = slot.Measure n
slot_of groups n (item.Sum e) = slot.Measure n
slot_of groups n (item.Average e) = slot.Measure n
slot_of groups n (item.Least r) = slot.Measure n
slot_of groups n (item.Greatest r) = slot.Measure n

-- the slots of a line: each item of a plain query is read of the key
abbrev pub slots_if : Bool → Query → List Slot
slots_if true query = map (λ p. slot.Key p.0) (numbered query.items)
slots_if false query = map (λ p. slot_of query.groups p.0 p.1) (numbered_from 1 query.items)

-- how a query is grouped and measured
abbrev pub plan_of : Query → GroupPlan
plan_of query = record { keys = keys_if (is_plain query) query; measures = measures_if (is_plain query) query; ties = tied_columns query }

-- how its groups give lines
abbrev pub finish_of : Query → Finish
finish_of query = record {
  names = query.names;
  slots = slots_if (is_plain query) query;
  order = map (λ o. record { slot = o.item; falling = o.falling }) query.order;
  limit = query.limit;
  repeat = is_plain query;
  single = is_single query;
}
