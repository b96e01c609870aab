use Rattle.std.proofs.Common.{◌≡◌, take}
use Rattle.std.specs.List.{flat_map}
use Rattle.cell_layout.specs.CellRepr.{rows_in}
use Rattle.cell_layout.proofs.image.Image.all_rows.Given as goal

abbrev pub invariant-loop-cell : goal.invariant-loop-cell
invariant-loop-cell g l = l.rows.items ≡ flat_map (rows_in l.self-inside.dicts) (take l.cell-index l.cell-items)
