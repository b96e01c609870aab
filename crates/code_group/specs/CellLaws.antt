-- What a valid image says of its cells and their rows. Source: this project's own.
use Rattle.std.specs.Prelude.{◌≡◌, ◌<◌, ◌≤◌, ℕ, true, List, length}
use Rattle.std.specs.List.{list_all}
use Rattle.cell_layout.specs.Image.{TableImage, CellImage, cell_at}
use Rattle.cell_layout.specs.Valid.{are_codes, is_valid, most_cell_rows}
use Rattle.order_codes.specs.Dictionary.{Classes}
use Rattle.code_group.specs.CellRow.{HaveClasses}

-- a class per column; not too many rows, and their codes in range
pub record CellFacts (columns : List Classes) (cell : CellImage) : Type 0 where
  pub classes : HaveClasses columns cell.classes
  pub few : length cell.rows ≤ most_cell_rows
  pub codes : list_all (are_codes columns cell.classes) cell.rows ≡ true

-- The law that each cell of a valid image has these.
abbrev pub CellsHaveClasses : Type 0
CellsHaveClasses = (image : TableImage) (cell : ℕ) → is_valid image ≡ true → cell < length image.cells → CellFacts image.columns (cell_at image cell)
