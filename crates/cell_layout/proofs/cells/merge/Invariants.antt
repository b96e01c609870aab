use Rattle.std.proofs.Common.{◌≡◌, ◌≤◌, length}
use Rattle.std.specs.Vec.Iter.{into_iter_items, into_iter_len}
use Rattle.cell_layout.specs.MergeCells.{AreMerged}
use Rattle.cell_layout.proofs.cells.merge.Given as goal

abbrev pub invariant-loop-cell : goal.invariant-loop-cell
invariant-loop-cell l = record {
  counted : into_iter_len l.cell-iterator ≡ length (into_iter_items l.cell-iterator);
  merged : AreMerged l.initial.cells.0 (into_iter_items l.initial.cell-iterator) l.cells.0 (into_iter_items l.cell-iterator);
  spare : length (into_iter_items l.cell-iterator) ≤ l.cells.1;
}
