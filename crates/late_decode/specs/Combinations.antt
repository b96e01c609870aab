-- Laws of how many combinations groups have. Source: this project's own.
use Rattle.std.specs.Prelude.{◌≡◌, List, ◌∷◌, length}
use Rattle.blink_base.specs.Values.{Row, same_row}
use Rattle.late_decode.specs.declared.plan.Measure.{Measure}
use Rattle.late_decode.specs.Parts.{Picked}
use Rattle.late_decode.specs.Groups.{grouped}
use Rattle.late_decode.specs.Bounds.{combinations_in}

-- The law that groups of rows have as many combinations as there are rows, where something is measured.
abbrev pub CombinationsCounted : Type 0
CombinationsCounted = (measure : Measure) (measures : List Measure) (key : Row → Row) (picked : Row → Picked) (rows : List Row)
    → combinations_in (measure ∷ measures) (grouped same_row (measure ∷ measures) key picked rows) ≡ length rows
