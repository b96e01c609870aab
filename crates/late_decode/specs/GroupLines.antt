-- The lines that groups give. Source: ISO/IEC 9075 (query specification, set functions, ORDER BY); the truncated average, ties and LIMIT are this project's own.
use Rattle.std.specs.Prelude.{ℕ, ℤ, pos, zero, suc, Bool, true, false, List, [], ◌∷◌, map, replicate, slice_index_or, int_div}
use Rattle.std.specs.List.{flat_map}
use Rattle.blink_base.specs.declared.value.Value.TheVariants.{Int}
use Rattle.blink_base.specs.declared.answer.Field.{Field}
use Rattle.blink_base.specs.declared.answer.Field.TheVariants.{Null, Number}
use Rattle.blink_base.specs.declared.answer.Answer.{Answer}
use Rattle.blink_base.specs.Values.{Row}
use Rattle.blink_base.specs.Lines.{Line, LineKey, field_of, field_if_some, printed_lines}
use Rattle.late_decode.specs.declared.plan.Measure.{Measure}
use Rattle.late_decode.specs.declared.plan.Measure.TheVariants.{Count, Sum, Average, Least, Greatest}
use Rattle.late_decode.specs.declared.plan.Part.{Part}
use Rattle.late_decode.specs.declared.plan.Slot.{Slot}
use Rattle.late_decode.specs.declared.plan.Slot.TheVariants as slot
use Rattle.late_decode.specs.declared.plan.LineOrder.{LineOrder}
use Rattle.late_decode.specs.declared.plan.Finish.{Finish}
use Rattle.late_decode.specs.Parts.{no_part, no_parts}
use Rattle.late_decode.specs.Groups.{Grouped}

-- a number, and NULL where there is no row
abbrev pub number_over : ℕ → ℤ → Field
number_over zero n = Null
number_over (suc k) n = Number n

-- the field of a measure
abbrev pub measure_field : Measure → Part → Field
measure_field Count part = Number (pos part.count)
measure_field (Sum f) part = number_over part.count part.sum
measure_field (Average f) part = number_over part.count (int_div part.sum (pos part.count))
measure_field (Least a) part = field_if_some part.bound
measure_field (Greatest a) part = field_if_some part.bound

-- the field of a slot, over a group
abbrev pub slot_field : List Measure → Row × List Part → Slot → Field
slot_field measures (key, parts) (slot.Key k) = field_of (slice_index_or key k (Int (pos 0)))
slot_field measures (key, parts) (slot.Measure k) = measure_field (slice_index_or measures k Count) (slice_index_or parts k no_part)

-- the line of a group
abbrev pub group_line : List Measure → List Slot → Row × List Part → Line
group_line measures slots group = map (slot_field measures group) slots

-- how many lines a group gives: one, or as many as its first measure counts
abbrev pub line_count : Bool → List Part → ℕ
line_count true parts = (slice_index_or parts 0 no_part).count
line_count false parts = 1

-- the lines of groups, one group after another
abbrev pub lines_of : List Measure → List Slot → Bool → Grouped Row → List Line
lines_of measures slots repeat groups = flat_map (λ group. replicate (line_count repeat group.1) (group_line measures slots group)) groups

-- with `single` no group gives one line over no rows
abbrev pub or_single : Bool → List Measure → Grouped Row → Grouped Row
or_single true measures [] = ([], no_parts measures) ∷ []
or_single true measures (group ∷ groups) = group ∷ groups
or_single false measures groups = groups

-- the keys of the lines' order
abbrev pub keys_of : List LineOrder → List LineKey
keys_of order = map (λ o. record { item = o.slot; falling = o.falling }) order

-- the answer that groups give
unfoldable pub finished : List Measure → Finish → Grouped Row → Answer
finished measures finish groups = record {
  names = finish.names;
  lines = printed_lines (keys_of finish.order) finish.limit (lines_of measures finish.slots finish.repeat (or_single finish.single measures groups));
}
