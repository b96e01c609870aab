use Rattle.std.proofs.Common.{◌≡◌, ◌≤◌, ◌*◌, sum_by, take}
use Rattle.bank_pack.specs.Banks.{page_blocks}
use Rattle.cell_layout.proofs.cell.page_blocks.Given as goal

abbrev pub invariant-loop-bank : goal.invariant-loop-bank
invariant-loop-bank l = record { so_far : l.blocks ≡ sum_by page_blocks (take l.bank l.plan); few : l.blocks ≤ 4 * l.bank }
