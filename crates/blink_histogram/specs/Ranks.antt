-- The distinct values of a column, by how often they stand in it. Source: after Raman et al., ICDE 2008 (frequency partitioning); the order of ties is this project's own.
use Rattle.std.specs.Prelude.{ℕ, List, map, count_by}
use Rattle.std.specs.declared.cmp.Ordering.{Ordering}
use Rattle.std.specs.Ordering.{nat_cmp, on, then_cmp, flip_args}
use Rattle.blink_base.specs.declared.value.Value.{Value}
use Rattle.blink_base.specs.Values.{value_cmp, same_value}
use Rattle.blink_lists.specs.Lists.{in_order, once_each}

-- a value, and how often it stands in a column
abbrev pub Counted : Type 0
Counted = Value × ℕ

-- the distinct values, in the order of first sight: a value's number is its place here
abbrev pub distinct_values : List Value → List Value
distinct_values column = once_each same_value column

-- how often a value stands in a column
abbrev pub count_of : List Value → Value → ℕ
count_of column v = count_by (same_value v) column

-- each distinct value with its count
abbrev pub counted : List Value → List Counted
counted column = map (λ v. (v, count_of column v)) (distinct_values column)

-- by falling count, and equal counts by rising value
abbrev pub rank_cmp : Counted → Counted → Ordering
rank_cmp = then_cmp (flip_args (on (λ c. c.1) nat_cmp)) (on (λ c. c.0) value_cmp)

-- the distinct values by rank
abbrev pub ranked : List Value → List Counted
ranked column = in_order rank_cmp (counted column)

-- the counts by rank
abbrev pub ranked_counts : List Value → List ℕ
ranked_counts column = map (λ c. c.1) (ranked column)
