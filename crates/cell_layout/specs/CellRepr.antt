-- What cells and rows in memory stand for: a cell, its rows, an image. Source: this project's own.
use Rattle.std.specs.Prelude.{◌≡◌, ◌≤◌, ◌+◌, ◌++◌, ℕ, List, map, length, sum_by, slice_index_or, All, IsTrue}
use Rattle.std.specs.List.{flat_map}
use Rattle.blink_base.specs.declared.schema.Schema.{Schema}
use Rattle.blink_base.specs.Values.{Row}
use Rattle.blink_lists.specs.Lists.{numbers_from, rises}
use Rattle.order_codes.specs.Dictionary.{Classes}
use Rattle.cell_layout.specs.declared.cell.Cell.{Cell}
use Rattle.cell_layout.specs.Image.{CellImage, TableImage, decoded_row}
use Rattle.cell_layout.specs.Layout.{cell_cmp}
use Rattle.cell_layout.specs.Blocks.{banks_for}
use Rattle.cell_layout.specs.Valid.{is_cell}
use Rattle.blink_lists.specs.declared.limits.TheConstants.{MOST_COLUMNS}

-- how many rows an image may have in all
abbrev pub most_image_rows : ℕ
most_image_rows = 1099511627776

-- the codes of a row, column by column
abbrev pub row_of_codes : List (List ℕ × ℕ) → ℕ → List ℕ
row_of_codes columns row = map (λ codes. slice_index_or codes.0 row 0) columns

-- so many rows
abbrev pub rows_of_codes : List (List ℕ × ℕ) → ℕ → List (List ℕ)
rows_of_codes columns rows = map (row_of_codes columns) (numbers_from 0 rows)

-- the cell that it stands for
abbrev pub cell_image : Cell → CellImage
cell_image cell = record { classes = cell.classes; rows = rows_of_codes cell.codes cell.rows }

-- the rows of a cell
abbrev pub rows_in : List Classes → Cell → List Row
rows_in columns cell = map (decoded_row columns cell.classes) (rows_of_codes cell.codes cell.rows)

-- the rows of cells, and those of rest behind them
abbrev pub all_rows : List Classes → List Cell → List Row → List Row
all_rows columns cells rest = flat_map (rows_in columns) cells ++ rest

-- the image that they stand for
abbrev pub image_of : Schema → List Classes → List Cell → List Row → TableImage
image_of schema columns cells rest = record { schema = schema; columns = columns; cells = map cell_image cells; rest = rest }

-- a cell's plan is that of its classes, and each column has a code a row
pub record IsCellRepr (columns : List Classes) (cell : Cell) : Type 0 where
  pub plan : cell.plan ≡ banks_for columns cell.classes
  pub lists : length cell.codes ≡ length columns
  pub full : All (λ codes. length codes.0 ≡ cell.rows) cell.codes
  pub good : IsTrue (is_cell columns (cell_image cell))

-- the cells are in order, and the numbers of rows are those of the lists
pub record IsImageRepr (schema : Schema) (columns : List Classes) (cells : List Cell) (rest : List Row) (rows : ℕ) : Type 0 where
  pub each : length columns ≡ length schema.columns
  pub few : length columns ≤ MOST_COLUMNS
  pub repr : All (IsCellRepr columns) cells
  pub order : IsTrue (rises cell_cmp (map (λ cell. cell.classes) cells))
  pub counted : rows ≡ sum_by (λ cell. cell.rows) cells + length rest
  pub most : rows ≤ most_image_rows
