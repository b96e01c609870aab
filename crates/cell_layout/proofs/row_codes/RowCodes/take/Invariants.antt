use Rattle.std.proofs.Common.{◌≡◌, true, take, is_some, length, vec_len, vec_capacity}
use Rattle.std.specs.List.{list_all}
use Rattle.blink_base.specs.Values.{Row}
use Rattle.cell_layout.specs.Image.{places_of}
use Rattle.cell_layout.specs.CellIndex.{AreWithin}
use Rattle.cell_layout.specs.Places.{HasPlacesAt}
use Rattle.cell_layout.proofs.RowCodeLemmas.{classes_in, codes_in}
use Rattle.cell_layout.proofs.row_codes.RowCodes.take.Given as goal

abbrev pub invariant-loop-column : goal.invariant-loop-column
invariant-loop-column g l = record {
  row : (row : Row) → length row ≡ length l.dicts → HasPlacesAt l.dicts l.places l.number row
      → (l.self.classes.items ≡ classes_in (take l.column (places_of l.dicts row))) × (l.self.codes.items ≡ codes_in (take l.column (places_of l.dicts row))) × (list_all is_some (take l.column (places_of l.dicts row)) ≡ true);
  within : AreWithin l.dicts l.self.classes.items l.self.codes.items l.column;
  class_count : vec_len l.self.classes ≡ l.column;
  code_count : vec_len l.self.codes ≡ l.column;
  class_room : vec_capacity l.self.classes ≡ vec_capacity l.initial.self.classes;
  code_room : vec_capacity l.self.codes ≡ vec_capacity l.initial.self.codes;
}
