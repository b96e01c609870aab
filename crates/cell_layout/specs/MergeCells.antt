-- Rows that were placed apart, added to standing cells. Source: this project's own.
use Rattle.std.specs.Prelude.{◌≡◌, ◌≢◌, ◌≤◌, ◌<◌, ◌+◌, ℕ, List, [], ◌++◌, map, length, cond, slice_index_or, All, IsTrue}
use Rattle.std.specs.List.{flat_map}
use Rattle.blink_base.specs.Values.{Row}
use Rattle.blink_lists.specs.Lists.{rises}
use Rattle.bank_pack.specs.Banks.{BankColumns}
use Rattle.order_codes.specs.Dictionary.{Classes}
use Rattle.cell_layout.specs.declared.cell.Cell.{Cell}
use Rattle.cell_layout.specs.Image.{CellImage}
use Rattle.cell_layout.specs.Layout.{cell_cmp, same_cell}
use Rattle.blink_lists.specs.declared.limits.TheConstants.{MOST_ROWS}
use Rattle.cell_layout.specs.CellRepr.{IsCellRepr, cell_image}
use Rattle.cell_layout.specs.CellIndex.{keys_of_cells}
use Rattle.cell_layout.specs.RowPartition.{ArePlaced}
use Rattle.cell_layout.specs.InsertRowRepr.{rows_in_all}

-- rows placed by the same classes, and few enough together
pub record AreBothPlaced (cells : List Cell) (rest : List Row) (more_cells : List Cell) (more_rest : List Row) : Type 0 where
  pub columns : List Classes
  pub rows : List Row
  pub batch : List Row
  pub standing : ArePlaced columns rows cells rest
  pub added : ArePlaced columns batch more_cells more_rest
  pub few : length rows + length batch ≤ MOST_ROWS

-- a cell without the room of its columns
abbrev pub bare_cell : Cell → List ℕ × List BankColumns × List (List ℕ) × ℕ
bare_cell cell = (cell.classes, cell.plan, map (λ codes. codes.0) cell.codes, cell.rows)

-- the same cells and rows, but for the room of the columns
pub record IsSameButRoom (cells : List Cell) (rest : List Row) (new_cells : List Cell) (new_rest : List Row) : Type 0 where
  pub same_cells : map bare_cell new_cells ≡ map bare_cell cells
  pub same_rest : new_rest ≡ rest

-- the same codes in each column, with no less room
pub record AreRoomier (old new : List (List ℕ × ℕ)) : Type 0 where
  pub count : length new ≡ length old
  pub same : (k : ℕ) (d : List ℕ × ℕ) → (slice_index_or new k d).0 ≡ (slice_index_or old k d).0
  pub more : (k : ℕ) (d : List ℕ × ℕ) → (slice_index_or old k d).1 ≤ (slice_index_or new k d).1

-- the same cell, with no less room
pub record IsRoomier (old new : Cell) : Type 0 where
  pub same_classes : new.classes ≡ old.classes
  pub same_plan : new.plan ≡ old.plan
  pub roomier : AreRoomier old.codes new.codes
  pub same_rows : new.rows ≡ old.rows

-- the same cells, with no less room
pub record AreRoomierCells (old new : List Cell) : Type 0 where
  pub count : length new ≡ length old
  pub each : (k : ℕ) (d : Cell) → IsRoomier (slice_index_or old k d) (slice_index_or new k d)

-- each column has room for so many rows
abbrev pub HaveRoom : List (List ℕ × ℕ) → ℕ → Type 0
HaveRoom columns rows = All (λ codes. rows ≤ codes.1) columns

-- the cell of these class numbers, where it stands, has room for so many rows
abbrev pub HasRoomFor : List Cell → List ℕ → ℕ → Type 0
HasRoomFor cells classes rows = All (λ cell. cell.classes ≡ classes → HaveRoom cell.codes rows) cells

-- the cells have room for the rows of each of these
abbrev pub HaveRoomFor : List Cell → List Cell → Type 0
HaveRoomFor cells more = All (λ cell. HasRoomFor cells cell.classes cell.rows) more

-- each column has further codes behind its others
pub record HasAppended (old new more : List (List ℕ × ℕ)) : Type 0 where
  pub count : length new ≡ length old
  pub each : (k : ℕ) (d : List ℕ × ℕ) → k < length old → (slice_index_or new k d).0 ≡ (slice_index_or old k d).0 ++ (slice_index_or more k d).0

-- a cell with the rows of another behind its own
pub record IsAbsorbed (old new more : Cell) : Type 0 where
  pub same_classes : new.classes ≡ old.classes
  pub same_plan : new.plan ≡ old.plan
  pub appended : HasAppended old.codes new.codes more.codes
  pub rows : new.rows ≡ old.rows + more.rows

-- cells with the rows of another behind those of the cell at a place
pub record IsAbsorbedAt (old new : List Cell) (at : ℕ) (more : Cell) : Type 0 where
  pub count : length new ≡ length old
  pub others : (k : ℕ) (d : Cell) → k ≢ at → slice_index_or new k d ≡ slice_index_or old k d
  pub here : (d : Cell) → IsAbsorbed (slice_index_or old at d) (slice_index_or new at d) more

-- the rows of a cell, where its class numbers are these
abbrev pub rows_under : List ℕ → CellImage → List (List ℕ)
rows_under classes cell = cond (same_cell classes cell.classes) cell.rows []

-- the rows of the cells of these class numbers
abbrev pub lookup : List ℕ → List CellImage → List (List ℕ)
lookup classes cells = flat_map (rows_under classes) cells

-- cells in memory for the same columns
pub record AreAlike (cells more : List Cell) : Type 0 where
  pub columns : List Classes
  pub standing : All (IsCellRepr columns) cells
  pub added : All (IsCellRepr columns) more

-- cells with one more: its rows stand behind those of its class numbers
pub record IsMergedIn (old new : List Cell) (cell : Cell) : Type 0 where
  pub order : IsTrue (rises cell_cmp (keys_of_cells new))
  pub found : (classes : List ℕ) → lookup classes (map cell_image new) ≡ lookup classes (map cell_image old) ++ rows_under classes (cell_image cell)
  pub repr : (columns : List Classes) → All (IsCellRepr columns) old → IsCellRepr columns cell → All (IsCellRepr columns) new
  pub counted : rows_in_all new ≡ rows_in_all old + cell.rows
  pub room : (classes : List ℕ) (rows : ℕ) → cell.classes ≢ classes → HasRoomFor old classes rows → HasRoomFor new classes rows

-- cells that are being added to others: those now, and those left
pub record AreMerged (old more now left : List Cell) : Type 0 where
  pub order : IsTrue (rises cell_cmp (keys_of_cells now))
  pub order_left : IsTrue (rises cell_cmp (keys_of_cells left))
  pub found : (classes : List ℕ) → lookup classes (map cell_image now) ++ lookup classes (map cell_image left) ≡ lookup classes (map cell_image old) ++ lookup classes (map cell_image more)
  pub repr : (columns : List Classes) → All (IsCellRepr columns) old → All (IsCellRepr columns) more → All (IsCellRepr columns) now × All (IsCellRepr columns) left
  pub counted : rows_in_all now + rows_in_all left ≡ rows_in_all old + rows_in_all more
  pub room : HaveRoomFor now left
