use Rattle.std.proofs.Common.{◌≡◌, ◌≤◌, ◌*◌, take, sum_by}
use Rattle.cell_layout.specs.declared.cell.Cell.{Cell}
use Rattle.bank_pack.specs.Banks.{blocks_for}
use Rattle.cell_layout.proofs.image.Image.blocks.Given as goal

abbrev pub invariant-loop-cell : goal.invariant-loop-cell
invariant-loop-cell g l = record {
  so_far : l.blocks ≡ sum_by (λ (cell : Cell). blocks_for cell.plan cell.rows) (take l.cell-index l.cell-items);
  few : l.blocks ≤ sum_by (λ (cell : Cell). cell.rows) (take l.cell-index l.cell-items) * 128;
}
