-- What DESCRIBE tells of a table: its columns with their classes, its cells, and the rows that are in none. Source: this project's own.
use Rattle.std.specs.Prelude.{ℕ, ◌==◌, Bool, false, List, map, length, Option, Some, None, Result, Ok, Err}
use Rattle.std.specs.List.{zip}
use Rattle.std.specs.Option.{option_map_or}
use Rattle.blink_base.specs.declared.schema.Column.{Column}
use Rattle.blink_base.specs.declared.schema.Schema.{Schema}
use Rattle.blink_base.specs.declared.refusal.Refusal.{Refusal}
use Rattle.blink_base.specs.declared.refusal.Refusal.TheVariants as refusal
use Rattle.blink_lists.specs.Lists.{numbered}
use Rattle.blink_lists.specs.Widths.{width_for}
use Rattle.order_codes.specs.Dictionary.{Classes}
use Rattle.bank_pack.specs.Banks.{tuplet_bits}
use Rattle.cell_layout.specs.Image.{TableImage, CellImage, row_count}
use Rattle.cell_layout.specs.Blocks.{blocks, page_count, cell_banks}
use Rattle.report_text.specs.declared.lines.ClassLine.{ClassLine}
use Rattle.report_text.specs.declared.lines.ColumnLine.{ColumnLine}
use Rattle.report_text.specs.declared.lines.CellLine.{CellLine}
use Rattle.report_text.specs.declared.lines.LayoutLines.{LayoutLines}
use Rattle.star_engine.specs.State.{AcceptedTable, Tables, find_table}

-- the width and the size of each class
abbrev pub class_lines : Classes → List ClassLine
class_lines classes = map (λ values. record { width = width_for (length values); size = length values }) classes

-- whether a column is the key
abbrev pub is_key_column : Option ℕ → ℕ → Bool
is_key_column key column = option_map_or (λ k. k == column) key false

-- the line of a column, by its number in the schema
abbrev pub column_line : Schema → ℕ × (Column × Classes) → ColumnLine
column_line schema (at, (column, classes)) = record { name = column.name; kind = column.kind; classes = class_lines classes; key = is_key_column schema.key at }

-- the lines of the columns, in the order of the schema
abbrev pub column_lines : Schema → List Classes → List ColumnLine
column_lines schema columns = map (column_line schema) (numbered (zip schema.columns columns))

-- the line of a cell
abbrev pub cell_line : TableImage → CellImage → CellLine
cell_line image cell = record { classes = cell.classes; rows = length cell.rows; pages = page_count cell; banks = map tuplet_bits (cell_banks image cell) }

-- the layout of a table of this name
abbrev pub layout_of : List ℕ → TableImage → LayoutLines
layout_of name image = record {
  table = name;
  rows = row_count image;
  blocks = blocks image;
  columns = column_lines image.schema image.columns;
  cells = map (cell_line image) image.cells;
  rest = length image.rest;
}

-- DESCRIBE of the table that a name has
abbrev pub described_found : List ℕ → Option AcceptedTable → Result LayoutLines Refusal
described_found name None = Err (refusal.UnknownTable name)
described_found name (Some accepted) = Ok (layout_of accepted.name accepted.image)

-- DESCRIBE: the layout of the table, or that there is none
abbrev pub described : Tables → List ℕ → Result LayoutLines Refusal
described tables name = described_found name (find_table tables name)
