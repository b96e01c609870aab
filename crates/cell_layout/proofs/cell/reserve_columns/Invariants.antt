use Rattle.std.proofs.Common.{◌≤◌, ◌<◌, ℕ, List, get_or}
use Rattle.cell_layout.specs.MergeCells.{AreRoomier}
use Rattle.cell_layout.proofs.cell.reserve_columns.Given as goal

abbrev pub invariant-loop-column : goal.invariant-loop-column
invariant-loop-column l = record {
  roomier : AreRoomier l.initial.columns l.columns;
  room : (k : ℕ) (d : List ℕ × ℕ) → k < l.column → l.rows ≤ (get_or l.columns k d).1;
}
