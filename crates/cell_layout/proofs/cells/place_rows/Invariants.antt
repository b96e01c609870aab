use Rattle.std.proofs.Common.{take}
use Rattle.cell_layout.specs.RowPartition.{ArePlaced}
use Rattle.cell_layout.proofs.cells.place_rows.Given as goal

abbrev pub invariant-loop-place : goal.invariant-loop-place
invariant-loop-place g l = ArePlaced l.dicts (take l.place l.rows) l.placed.cells.0 l.placed.rest.0
