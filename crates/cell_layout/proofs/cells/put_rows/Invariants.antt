use Rattle.std.proofs.Common.{◌≡◌, ◌≤◌, ◌++◌, length}
use Rattle.std.specs.Vec.Iter.{into_iter_items, into_iter_len}
use Rattle.cell_layout.proofs.cells.put_rows.Given as goal

abbrev pub invariant-loop-row : goal.invariant-loop-row
invariant-loop-row l = record {
  counted : into_iter_len l.row-iterator ≡ length (into_iter_items l.row-iterator);
  whole : l.rest.0 ++ into_iter_items l.row-iterator ≡ l.initial.rest.0 ++ into_iter_items l.initial.row-iterator;
  room : length (into_iter_items l.row-iterator) ≤ l.rest.1;
}
