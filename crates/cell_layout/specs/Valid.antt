-- Which images a table may have. Source: this project's own.
use Rattle.std.specs.Prelude.{ℕ, ◌≤◌, Bool, true, not, ◌&&◌, ◌==◌, List, ◌++◌, map, length, nat_le, nat_lt, Option, Some, None, IsTrue}
use Rattle.std.specs.List.{list_all, zip}
use Rattle.blink_base.specs.declared.schema.Schema.{Schema}
use Rattle.blink_base.specs.Values.{Row, same_value}
use Rattle.blink_base.specs.RowFits.{fits, is_schema}
use Rattle.blink_lists.specs.Lists.{are_distinct, rises}
use Rattle.blink_lists.specs.Rearrangement.{Rearranged}
use Rattle.order_codes.specs.Dictionary.{Classes, class_at}
use Rattle.cell_layout.specs.Image.{TableImage, CellImage, rows_of, is_coded}
use Rattle.column_classes.specs.ColumnClasses.{column_values, are_divided}
use Rattle.cell_layout.specs.Layout.{cell_cmp, laid, grown}
use Rattle.blink_lists.specs.declared.limits.TheConstants.{MOST_ROWS}

-- how many rows a cell, or rest, may have
abbrev pub most_cell_rows : ℕ
most_cell_rows = 4294967295

-- a number of rows that fits a cell, where it has any
abbrev pub is_row_count : List (List ℕ) → Bool
is_row_count rows = nat_le 1 (length rows) && nat_le (length rows) most_cell_rows

-- each code is below its class's size
abbrev pub are_codes : List Classes → List ℕ → List ℕ → Bool
are_codes columns classes codes = length codes == length columns && list_all (λ p. nat_lt p.1 (length (class_at p.0.0 p.0.1))) (zip (zip columns classes) codes)

-- a class number per column, below the column's number of classes; rows, and their codes
abbrev pub is_cell : List Classes → CellImage → Bool
is_cell columns cell =
    length cell.classes == length columns
    && list_all (λ p. nat_lt p.1 (length p.0)) (zip columns cell.classes)
    && is_row_count cell.rows
    && list_all (are_codes columns cell.classes) cell.rows

-- a row of rest fits, and has a value in no class of its column
abbrev pub is_rest_row : TableImage → Row → Bool
is_rest_row image row = fits image.schema row && not (is_coded image.columns row)

-- the values of the key are distinct
abbrev pub are_keyed : Option ℕ → List Row → Bool
are_keyed None rows = true
are_keyed (Some key) rows = are_distinct same_value (column_values rows key)

-- whether an image is one that a table may have
abbrev pub is_valid : TableImage → Bool
is_valid image =
    is_schema image.schema
    && are_divided image.schema image.columns
    && list_all (is_cell image.columns) image.cells
    && rises cell_cmp (map (λ cell. cell.classes) image.cells)
    && list_all (is_rest_row image) image.rest
    && nat_le (length image.rest) most_cell_rows
    && are_keyed image.schema.key (rows_of image)

-- rows that a table of this schema may hold
pub record MayHold (schema : Schema) (rows : List Row) : Type 0 where
  pub allowed : IsTrue (is_schema schema)
  pub few : length rows ≤ MOST_ROWS
  pub fit : IsTrue (list_all (fits schema) rows)
  pub keyed : IsTrue (are_keyed schema.key rows)

-- The law that rows laid out anew are a valid image of these rows in another order.
abbrev pub LaidIsValid : Type 0
LaidIsValid = (schema : Schema) (rows : List Row) → MayHold schema rows → IsTrue (is_valid (laid schema rows)) × Rearranged rows (rows_of (laid schema rows))

-- The law that a grown image is a valid image of its rows and the further ones in another order.
abbrev pub GrownIsValid : Type 0
GrownIsValid =
    (image : TableImage) (rows : List Row) → IsTrue (is_valid image) → MayHold image.schema (rows_of image ++ rows)
    → IsTrue (is_valid (grown image rows)) × Rearranged (rows_of image ++ rows) (rows_of (grown image rows))
