-- Rows in the cells in memory of them. Source: this project's own.
use Rattle.std.specs.Prelude.{◌≡◌, ◌≤◌, ◌+◌, ℕ, not, List, map, filter, length, All, IsTrue}
use Rattle.blink_base.specs.Values.{Row}
use Rattle.blink_lists.specs.Lists.{rises}
use Rattle.order_codes.specs.Dictionary.{Classes}
use Rattle.cell_layout.specs.declared.cell.Cell.{Cell}
use Rattle.cell_layout.specs.Image.{is_coded, coded}
use Rattle.cell_layout.specs.Layout.{cell_cmp, cells_of}
use Rattle.cell_layout.specs.CellRepr.{IsCellRepr, cell_image}
use Rattle.blink_lists.specs.declared.limits.TheConstants.{MOST_ROWS}
use Rattle.cell_layout.specs.CellIndex.{keys_of_cells}
use Rattle.cell_layout.specs.InsertRowRepr.{rows_in_all}

-- the cells are those of the rows that have codes, and the others are in rest
pub record ArePlaced (columns : List Classes) (rows : List Row) (cells : List Cell) (rest : List Row) : Type 0 where
  pub image : map cell_image cells ≡ cells_of (map (coded columns) (filter (is_coded columns) rows))
  pub others : rest ≡ filter (λ row. not (is_coded columns row)) rows
  pub repr : All (IsCellRepr columns) cells
  pub order : IsTrue (rises cell_cmp (keys_of_cells cells))
  pub counted : rows_in_all cells + length rest ≡ length rows

-- they are those of some rows, behind which so many more may come
abbrev pub HasRoomBehind : List Classes → List Cell → List Row → ℕ → Type 0
HasRoomBehind columns cells rest more = (rows : List Row) × (length rows + more ≤ MOST_ROWS) × ArePlaced columns rows cells rest
