use Rattle.std.proofs.Common.{take}
use Rattle.cell_layout.specs.MergeCells.{AreRoomierCells, HaveRoomFor}
use Rattle.cell_layout.proofs.cells.reserve_cells.Given as goal

abbrev pub invariant-loop-cell : goal.invariant-loop-cell
invariant-loop-cell l = record {
  roomier : AreRoomierCells l.initial.cells.0 l.cells.0;
  room : HaveRoomFor l.cells.0 (take l.cell-index l.more);
}
