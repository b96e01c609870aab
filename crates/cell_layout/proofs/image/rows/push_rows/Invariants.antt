use Rattle.std.proofs.Common.{◌≡◌, ◌++◌, take}
use Rattle.cell_layout.specs.CellRepr.{rows_in}
use Rattle.cell_layout.proofs.image.rows.push_rows.Given as goal

abbrev pub invariant-loop-row : goal.invariant-loop-row
invariant-loop-row g l = l.rows.items ≡ l.initial.rows.items ++ take l.row (rows_in l.dicts l.cell)
