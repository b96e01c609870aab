-- Slots of lines, where groups are of a plan. Source: this project's own.
use Rattle.std.specs.Prelude.{◌≡◌, ℕ, Bool, true, List, length, nat_lt}
use Rattle.std.specs.List.{list_all}
use Rattle.blink_base.specs.Values.{Row}
use Rattle.late_decode.specs.declared.plan.GroupPlan.{GroupPlan}
use Rattle.late_decode.specs.declared.plan.Slot.{Slot}
use Rattle.late_decode.specs.declared.plan.Slot.TheVariants as slot
use Rattle.late_decode.specs.Bounds.{slots_within}
use Rattle.late_decode.specs.Groups.{Grouped}
use Rattle.code_group.specs.Plans.{are_of_plan}

-- whether a slot is of a pick of the plan's keys, or of one of its measures
abbrev pub slot_of_plan : GroupPlan → Slot → Bool
slot_of_plan plan (slot.Key k) = nat_lt k (length plan.keys)
slot_of_plan plan (slot.Measure k) = nat_lt k (length plan.measures)

-- The law that such slots are in range of groups of the plan.
abbrev pub SlotsOfPlan : Type 0
SlotsOfPlan = (plan : GroupPlan) (slots : List Slot) (groups : Grouped Row) → list_all (slot_of_plan plan) slots ≡ true → are_of_plan plan groups ≡ true → slots_within plan.measures slots groups ≡ true
