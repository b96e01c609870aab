use Rattle.std.proofs.Common.{◌≡◌, map, take}
use Rattle.star_engine.specs.TableLayout.{cell_line}
use Rattle.star_engine.proofs.describe.cell_lines.Given as goal

abbrev pub invariant-loop-cell : goal.invariant-loop-cell
invariant-loop-cell g l = l.lines ≡ map (cell_line l.image) (take l.cell l.image.cells)
