-- How many combinations groups have, and how large their sums may be. Source: this project's own.
use Rattle.std.specs.Prelude.{ℕ, ◌*◌, ◌^◌, Bool, true, false, ◌&&◌, ◌==◌, List, ◌∷◌, map, sum_by, max, fold, length, nat_le, nat_lt, nat_abs, slice_index_or}
use Rattle.std.specs.List.{list_all}
use Rattle.blink_base.specs.Values.{Row}
use Rattle.blink_lists.specs.Lists.{numbers_from}
use Rattle.blink_lists.specs.declared.limits.TheConstants.{MOST_ROWS}
use Rattle.late_decode.specs.declared.plan.Measure.{Measure}
use Rattle.late_decode.specs.declared.plan.Measure.TheVariants as measure
use Rattle.late_decode.specs.declared.plan.Part.{Part}
use Rattle.late_decode.specs.declared.plan.Slot.{Slot}
use Rattle.late_decode.specs.declared.plan.Slot.TheVariants as slot
use Rattle.late_decode.specs.Parts.{no_part}
use Rattle.late_decode.specs.Groups.{Grouped}

-- how many combinations groups may have
abbrev pub most_combinations : ℕ
most_combinations = MOST_ROWS

-- whether a sum is at most 10^30 times its count in size
abbrev pub is_bounded : Part → Bool
is_bounded part = nat_le (nat_abs part.sum) (10 ^ 30 * part.count)

-- whether there is one bounded part per measure
abbrev pub are_parts : List Measure → List Part → Bool
are_parts measures parts = length parts == length measures && list_all is_bounded parts

-- whether each group has one bounded part per measure
abbrev pub are_groups : {K : Type 0} → List Measure → Grouped K → Bool
are_groups measures groups = list_all (λ group. are_parts measures group.1) groups

-- the sum of the counts of the parts of the measure at a place
abbrev pub counted_at : {K : Type 0} → Grouped K → ℕ → ℕ
counted_at groups k = sum_by (λ group. (slice_index_or group.1 k no_part).count) groups

-- the number of combinations in groups: the greatest of these sums
abbrev pub combinations_in : {K : Type 0} → List Measure → Grouped K → ℕ
combinations_in measures groups = fold max 0 (map (counted_at groups) (numbers_from 0 (length measures)))

-- the number of combinations of parts
abbrev pub combinations_of : List Part → ℕ
combinations_of parts = fold max 0 (map (λ part. part.count) parts)

-- whether a slot is read of the key
abbrev pub is_key_slot : Slot → Bool
is_key_slot (slot.Key k) = true
is_key_slot (slot.Measure k) = false

-- whether a slot is in range for this key
abbrev pub slot_within : List Measure → Row → Slot → Bool
slot_within measures key (slot.Key k) = nat_lt k (length key)
slot_within measures key (slot.Measure k) = nat_lt k (length measures)

-- whether a slot is read of the key, or of a measure that is there
abbrev pub measure_within : List Measure → Slot → Bool
measure_within measures (slot.Key k) = true
measure_within measures (slot.Measure k) = nat_lt k (length measures)

-- whether the slots are in range, for each group
abbrev pub slots_within : List Measure → List Slot → Grouped Row → Bool
slots_within measures slots groups = list_all (measure_within measures) slots && list_all (λ group. list_all (slot_within measures group.0) slots) groups

-- whether the first measure counts
abbrev pub counts_first : List Measure → Bool
counts_first (measure.Count ∷ measures) = true
counts_first _ = false
