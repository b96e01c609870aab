use Rattle.std.proofs.Common.{◌≡◌, ◌+◌, take, sum_by}
use Rattle.cell_layout.specs.declared.cell.Cell.{Cell}
use Rattle.cell_layout.proofs.image.Image.row.Given as goal

abbrev pub invariant-loop-cell : goal.invariant-loop-cell
invariant-loop-cell g l = record { place : l.number ≡ sum_by (λ (cell : Cell). cell.rows) (take l.cell-index l.cell-items) + l.left; decodes : l.decodes ≡ l.initial.decodes }
