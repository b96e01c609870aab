-- The rows of an image that pass a condition, by parts: of a page, of a cell, of all cells, and of rest. Source: this project's own.
use Rattle.std.specs.Prelude.{ℕ, Bool, List, [], map, filter, flat_map}
use Rattle.std.specs.List.{list_any}
use Rattle.blink_base.specs.Values.{Row}
use Rattle.star_bind.specs.declared.query.Conjunction.{Conjunction}
use Rattle.star_bind.specs.Conjunctions.{passes}
use Rattle.cell_layout.specs.Image.{TableImage, CellImage, cell_at, decoded_row}
use Rattle.cell_scan.specs.Match.{rows_of_page}
use Rattle.star_select.specs.CellTests.{is_passed}

-- the rows that the codes which pass a test stand for, in a cell
abbrev pub rows_where : TableImage → CellImage → (List ℕ → Bool) → List (List ℕ) → List Row
rows_where image cell test rows = map (decoded_row image.columns cell.classes) (filter test rows)

-- the same of a page of a cell
abbrev pub page_where : TableImage → ℕ → (List ℕ → Bool) → ℕ → List Row
page_where image cell test page = rows_where image (cell_at image cell) test (rows_of_page (cell_at image cell).rows page)

-- the rows of a cell that pass some conjunction
abbrev pub cell_wanted : TableImage → List Conjunction → CellImage → List Row
cell_wanted image conjunctions cell = rows_where image cell (is_passed image.columns cell.classes [] [] conjunctions) cell.rows

-- the rows of all cells that do, cell by cell
abbrev pub cells_wanted : TableImage → List Conjunction → List Row
cells_wanted image conjunctions = flat_map (cell_wanted image conjunctions) image.cells

-- the rows that are in no cell and do
abbrev pub rest_wanted : List Conjunction → List Row → List Row
rest_wanted conjunctions rest = filter (λ row. list_any (passes row) conjunctions) rest
