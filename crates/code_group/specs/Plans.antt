-- What groups by code ask of their plan and of the rows that are added. Source: this project's own.
use Rattle.std.specs.Prelude.{ℕ, Bool, true, false, not, ◌&&◌, ◌==◌, List, [], ◌∷◌, length, nat_lt, count_by, slice_index_or, drop}
use Rattle.std.specs.List.{list_all, list_any, flat_map}
use Rattle.blink_base.specs.declared.value.Value.{Value}
use Rattle.blink_base.specs.declared.value.Value.TheVariants.{Int, Text, Date}
use Rattle.blink_base.specs.RowFits.{is_good}
use Rattle.code_join.specs.Keys.{Keyed}
use Rattle.order_codes.specs.Dictionary.{Classes}
use Rattle.late_decode.specs.declared.plan.Pick.{Pick}
use Rattle.late_decode.specs.declared.plan.Pick.TheVariants.{Fact, Dimension}
use Rattle.late_decode.specs.declared.plan.Formula.{Formula}
use Rattle.late_decode.specs.declared.plan.Formula.TheVariants as formula
use Rattle.late_decode.specs.declared.plan.Measure.{Measure}
use Rattle.late_decode.specs.declared.plan.Measure.TheVariants as measure
use Rattle.late_decode.specs.declared.plan.GroupPlan.{GroupPlan}
use Rattle.late_decode.specs.Parts.{Picked}
use Rattle.late_decode.specs.Groups.{Grouped}
use Rattle.late_decode.specs.Bounds.{are_groups}
use Rattle.code_group.specs.Entries.{sizes_in}
use Rattle.code_group.specs.Slots.{is_within}

-- the picks of a formula
abbrev pub formula_picks : Formula → List Pick
formula_picks (formula.One a) = a ∷ []
formula_picks (formula.Times a b) = a ∷ b ∷ []
formula_picks (formula.Plus a b) = a ∷ b ∷ []
formula_picks (formula.Minus a b) = a ∷ b ∷ []

-- the picks of a measure
abbrev pub measure_picks : Measure → List Pick
measure_picks measure.Count = []
measure_picks (measure.Sum f) = formula_picks f
measure_picks (measure.Average f) = formula_picks f
measure_picks (measure.Least a) = a ∷ []
measure_picks (measure.Greatest a) = a ∷ []

-- the picks that are summed
abbrev pub summed_picks : Measure → List Pick
summed_picks measure.Count = []
summed_picks (measure.Sum f) = formula_picks f
summed_picks (measure.Average f) = formula_picks f
summed_picks (measure.Least a) = []
summed_picks (measure.Greatest a) = []

-- whether a pick is of one of so many columns, or of a payload value that all keys of a tie have
abbrev pub pick_there : ℕ → List Keyed → Pick → Bool
pick_there columns keys (Fact k) = nat_lt k columns
pick_there columns keys (Dimension tie place) = nat_lt tie (length keys) && list_all (λ entry. nat_lt place (length entry.1)) (slice_index_or keys tie [])

-- whether the picks of a measure are there
abbrev pub measure_there : ℕ → List Keyed → Measure → Bool
measure_there columns keys m = list_all (pick_there columns keys) (measure_picks m)

-- whether all picks of a plan are there
abbrev pub plan_there : ℕ → List Keyed → GroupPlan → Bool
plan_there columns keys plan = list_all (pick_there columns keys) plan.keys && list_all (measure_there columns keys) plan.measures

-- whether a value is a good whole number
abbrev pub is_good_number : Value → Bool
is_good_number (Int n) = is_good (Int n)
is_good_number (Text t) = false
is_good_number (Date d) = false

-- whether all that a measure sums of a row is a good whole number
abbrev pub measure_sums : Picked → Measure → Bool
measure_sums at m = list_all (λ p. is_good_number (at p)) (summed_picks m)

-- whether all that is summed of a row is
abbrev pub sums_numbers : GroupPlan → Picked → Bool
sums_numbers plan at = list_all (measure_sums at) plan.measures

-- whether groups are of a plan: an entry per pick of its keys, and a bounded part per measure
abbrev pub are_of_plan : {X : Type 0} → GroupPlan → Grouped (List X) → Bool
are_of_plan plan groups = are_groups plan.measures groups && list_all (λ group. length group.0 == length plan.keys) groups

-- whether all tuples of groups are in range for a cell of these class numbers and these keys
abbrev pub entries_within : List Classes → List ℕ → List Keyed → GroupPlan → Grouped (List ℕ) → Bool
entries_within columns classes keys plan groups = list_all (λ group. is_within (sizes_in columns classes keys plan.keys) group.0) groups

-- whether a pick is of the fact
abbrev pub is_of_fact : Pick → Bool
is_of_fact (Fact k) = true
is_of_fact (Dimension tie place) = false

-- how many picks are of the fact
abbrev pub fact_picks : List Pick → ℕ
fact_picks picks = count_by is_of_fact picks

-- how many picks of the fact a plan has in its keys, and in its measures
abbrev pub fact_key_picks : GroupPlan → ℕ
fact_key_picks plan = fact_picks plan.keys

abbrev pub fact_value_picks : GroupPlan → ℕ
fact_value_picks plan = fact_picks (flat_map measure_picks plan.measures)

-- whether no truth value stands behind so many rows
abbrev pub none_behind : List Bool → ℕ → Bool
none_behind bits rows = not (list_any (λ b. b) (drop rows bits))
