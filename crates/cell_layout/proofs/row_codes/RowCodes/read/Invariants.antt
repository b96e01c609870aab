use Rattle.std.proofs.Common.{◌≡◌, true, take, is_some}
use Rattle.std.specs.List.{list_all}
use Rattle.cell_layout.specs.Image.{places_of}
use Rattle.cell_layout.specs.CellIndex.{AreWithin}
use Rattle.cell_layout.proofs.RowCodeLemmas.{classes_in, codes_in}
use Rattle.cell_layout.proofs.row_codes.RowCodes.read.Given as goal

abbrev pub invariant-loop-column : goal.invariant-loop-column
invariant-loop-column g l = record {
  classes : l.self.classes.items ≡ classes_in (take l.column (places_of l.dicts l.row));
  codes : l.self.codes.items ≡ codes_in (take l.column (places_of l.dicts l.row));
  some : list_all is_some (take l.column (places_of l.dicts l.row)) ≡ true;
  within : AreWithin l.dicts l.self.classes.items l.self.codes.items l.column;
}
