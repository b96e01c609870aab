use Rattle.std.proofs.Common.{◌≤◌, ◌++◌, take, length, vec_capacity}
use Rattle.cell_layout.specs.RowPartition.{ArePlaced}
use Rattle.cell_layout.proofs.cells.place_coded.Given as goal

abbrev pub invariant-loop-number : goal.invariant-loop-number
invariant-loop-number g l = record {
  placed : ArePlaced l.dicts (take l.number (l.held ++ l.batch)) l.placed.cells.0 l.placed.rest.0;
  class_room : length l.dicts ≤ vec_capacity l.codes.classes;
  code_room : length l.dicts ≤ vec_capacity l.codes.codes;
}
