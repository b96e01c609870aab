-- What one more row does to cells in memory. Source: this project's own.
use Rattle.std.specs.Prelude.{◌≡◌, ◌≢◌, ◌+◌, ℕ, List, [], ◌∷◌, map, length, sum_by, slice_index_or, All}
use Rattle.order_codes.specs.Dictionary.{Classes}
use Rattle.cell_layout.specs.declared.cell.Cell.{Cell}
use Rattle.cell_layout.specs.Blocks.{banks_for}
use Rattle.cell_layout.specs.CellRepr.{IsCellRepr, cell_image}
use Rattle.cell_layout.specs.CellIndex.{HasPushed}
use Rattle.cell_layout.specs.InsertRow.{put_row}

-- how many rows cells have
abbrev pub rows_in_all : List Cell → ℕ
rows_in_all cells = sum_by (λ cell. cell.rows) cells

-- a cell with these codes behind its rows
pub record IsGrown (old new : Cell) (codes : List ℕ) : Type 0 where
  pub same_classes : new.classes ≡ old.classes
  pub same_plan : new.plan ≡ old.plan
  pub pushed : HasPushed old.codes new.codes codes
  pub one_more : new.rows ≡ old.rows + 1

-- these codes stand behind the rows of the cell at a place
pub record IsPushed (old new : List Cell) (at : ℕ) (codes : List ℕ) : Type 0 where
  pub count : length new ≡ length old
  pub others : (k : ℕ) (d : Cell) → k ≢ at → slice_index_or new k d ≡ slice_index_or old k d
  pub here : (d : Cell) → IsGrown (slice_index_or old at d) (slice_index_or new at d) codes

-- a cell of one row
pub record IsFirst (columns : List Classes) (cell : Cell) (classes codes : List ℕ) : Type 0 where
  pub numbers : cell.classes ≡ classes
  pub planned : cell.plan ≡ banks_for columns classes
  pub lists : map (λ list. list.0) cell.codes ≡ map (λ code. code ∷ []) codes
  pub one : cell.rows ≡ 1

-- cells with one more row
pub record IsPut (columns : List Classes) (old new : List Cell) (classes codes : List ℕ) : Type 0 where
  pub image : map cell_image new ≡ put_row (record { classes = classes; codes = codes }) (map cell_image old)
  pub repr : All (IsCellRepr columns) new
  pub one_more : rows_in_all new ≡ rows_in_all old + 1
