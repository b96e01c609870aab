use Rattle.std.proofs.Common.{◌≡◌, ◌+◌, take}
use Rattle.cell_layout.specs.Image.{decoded_row}
use Rattle.cell_layout.specs.CellRepr.{row_of_codes}
use Rattle.cell_layout.proofs.image.rows.decoded.Given as goal

abbrev pub invariant-loop-column : goal.invariant-loop-column
invariant-loop-column g l = record {
  so_far : l.values.items ≡ take l.column (decoded_row l.dicts l.cell.classes (row_of_codes l.cell.codes l.row));
  counted : l.decodes ≡ l.initial.decodes + l.column;
}
