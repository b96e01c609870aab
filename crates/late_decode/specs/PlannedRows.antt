-- Rows of one table by a plan: their keys, their picked values and their groups. Source: this project's own.
use Rattle.std.specs.Prelude.{pos, List, map, slice_index_or}
use Rattle.blink_base.specs.declared.value.Value.TheVariants.{Int}
use Rattle.blink_base.specs.Values.{Row, same_row}
use Rattle.late_decode.specs.declared.plan.Pick.{Pick}
use Rattle.late_decode.specs.declared.plan.Pick.TheVariants.{Fact, Dimension}
use Rattle.late_decode.specs.declared.plan.GroupPlan.{GroupPlan}
use Rattle.late_decode.specs.Parts.{Picked}
use Rattle.late_decode.specs.Groups.{Grouped, grouped, rows_added}

-- the picked values of a row
abbrev pub picked_in : Row → Picked
picked_in row (Fact k) = slice_index_or row k (Int (pos 0))
picked_in row (Dimension tie place) = Int (pos 0)

-- the key of what has these picked values
abbrev pub key_of : List Pick → Picked → Row
key_of keys at = map at keys

-- the groups of some rows by a plan
abbrev pub groups_by_plan : {X : Type 0} → GroupPlan → (X → Picked) → List X → Grouped Row
groups_by_plan plan picked xs = grouped same_row plan.measures (λ x. key_of plan.keys (picked x)) picked xs

-- rows added to groups by a plan
abbrev pub rows_added_by_plan : GroupPlan → List Row → Grouped Row → Grouped Row
rows_added_by_plan plan rows groups = rows_added same_row plan.measures (λ row. key_of plan.keys (picked_in row)) picked_in rows groups
