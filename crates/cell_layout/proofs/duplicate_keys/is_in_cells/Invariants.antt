use Rattle.std.proofs.Common.{◌≡◌, ◌<◌, ℕ, false, get_or}
use Rattle.cell_layout.specs.declared.cell.Cell.{Cell}
use Rattle.cell_layout.proofs.KeyPlaceLemmas.{stands_in}
use Rattle.cell_layout.proofs.duplicate_keys.is_in_cells.Given as goal

abbrev pub invariant-loop-cell : goal.invariant-loop-cell
invariant-loop-cell g l = (k : ℕ) (d : Cell) → k < l.cell-index → stands_in l.dicts l.column l.value (get_or l.cells k d) ≡ false
