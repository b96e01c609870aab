use Rattle.std.proofs.Common.{◌≡◌, true, length, take}
use Rattle.std.specs.List.{list_all}
use Rattle.masked_compare.specs.Fields.{is_width}
use Rattle.cell_layout.specs.Blocks.{cell_widths}
use Rattle.cell_layout.proofs.cell.widths_of.Given as goal

abbrev pub invariant-loop-column : goal.invariant-loop-column
invariant-loop-column g l = record {
  so_far : l.widths.items ≡ take l.column (cell_widths l.dicts l.classes);
  narrow : list_all is_width l.widths.items ≡ true;
  count : length l.widths.items ≡ l.column;
}
