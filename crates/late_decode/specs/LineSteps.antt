-- Lines while they are made: the fields of a group, and where they went. Source: this project's own.
use Rattle.std.specs.Prelude.{ℕ, ◌+◌, List, [], ◌∷◌, ◌++◌, map, Option, Some, slice_get}
use Rattle.blink_base.specs.declared.answer.Field.{Field}
use Rattle.blink_base.specs.Lines.{Line, field_of}
use Rattle.blink_base.specs.Values.{Row}
use Rattle.late_decode.specs.declared.plan.Measure.{Measure}
use Rattle.late_decode.specs.declared.plan.Part.{Part}
use Rattle.late_decode.specs.declared.plan.Slot.{Slot}
use Rattle.late_decode.specs.declared.plan.Slot.TheVariants as slot
use Rattle.late_decode.specs.declared.source.Source.{Source}
use Rattle.late_decode.specs.declared.source.Source.TheVariants.{Here, Moved}
use Rattle.late_decode.specs.GroupLines.{measure_field}

-- the fields of measures
abbrev pub measure_fields : List Measure → List Part → List Field
measure_fields (measure ∷ measures) (part ∷ parts) = measure_field measure part ∷ measure_fields measures parts
measure_fields measures parts = []

-- all fields that a group has: those of its measures, and those of its key behind them
abbrev pub group_fields : List Measure → Row × List Part → List Field
group_fields measures (key, parts) = measure_fields measures parts ++ map field_of key

-- the place of a slot among these, for so many measures
abbrev pub place_of : ℕ → Slot → ℕ
place_of measures (slot.Key k) = measures + k
place_of measures (slot.Measure k) = k

-- the field that stands here, or at a place of the line
abbrev pub source_field : Line → Source → Option Field
source_field line (Here field) = Some field
source_field line (Moved at) = slice_get line at
