-- How rows are laid out anew, and how they are added to a standing layout. Source: after Raman et al., ICDE 2008 (frequency partitioning); the choice of classes is this project's own.
use Rattle.std.specs.Prelude.{ℕ, Bool, not, List, [], ◌++◌, map, filter}
use Rattle.std.specs.declared.cmp.Ordering.{Ordering}
use Rattle.std.specs.Ordering.{nat_cmp, is_eq}
use Rattle.std.specs.Cmp.Lexicographic.{slice_cmp}
use Rattle.blink_base.specs.declared.schema.Schema.{Schema}
use Rattle.blink_base.specs.Values.{Row}
use Rattle.blink_lists.specs.Lists.{in_order, once_each}
use Rattle.order_codes.specs.Dictionary.{Classes}
use Rattle.cell_layout.specs.Image.{CellImage, TableImage, CodedRow, is_coded, coded, rows_of}
use Rattle.column_classes.specs.ColumnClasses.{classes_for}

-- cells in lexicographic order of their class numbers
abbrev pub cell_cmp : List ℕ → List ℕ → Ordering
cell_cmp = slice_cmp nat_cmp

-- whether class numbers are those of one cell
abbrev pub same_cell : List ℕ → List ℕ → Bool
same_cell x y = is_eq (cell_cmp x y)

-- the cell of these class numbers: its rows in the order of their coming
abbrev pub cell_of : List CodedRow → List ℕ → CellImage
cell_of rows classes = record { classes = classes; rows = map (λ r. r.codes) (filter (λ r. same_cell classes r.classes) rows) }

-- the cells that have rows, in order
abbrev pub cells_of : List CodedRow → List CellImage
cells_of rows = map (cell_of rows) (in_order cell_cmp (once_each same_cell (map (λ r. r.classes) rows)))

-- rows placed by these classes: in cells where each value has a class, and else in rest
abbrev pub placed : Schema → List Classes → List Row → TableImage
placed schema columns rows = record {
  schema = schema;
  columns = columns;
  cells = cells_of (map (coded columns) (filter (is_coded columns) rows));
  rest = filter (λ row. not (is_coded columns row)) rows;
}

-- rows laid out anew
abbrev pub laid : Schema → List Row → TableImage
laid schema rows = placed schema (classes_for schema rows) rows

-- further rows in the standing classes, behind those of the image
abbrev pub grown : TableImage → List Row → TableImage
grown image rows = placed image.schema image.columns (rows_of image ++ rows)

-- the image of a table without rows, before its first layout: no classes
abbrev pub empty_image : Schema → TableImage
empty_image schema = record { schema = schema; columns = map (λ column. []) schema.columns; cells = []; rest = [] }
