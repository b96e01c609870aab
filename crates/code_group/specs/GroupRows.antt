-- Groups by tuples within a cell, and the groups of a whole image: cell by cell, and then the rows of rest. Source: after Raman et al., ICDE 2008 (star joins and aggregation on codes, decoded late); own.
use Rattle.std.specs.Prelude.{ℕ, List, [], ◌∷◌}
use Rattle.blink_base.specs.Values.{Row, same_row}
use Rattle.cell_layout.specs.Image.{TableImage, CellImage, decoded_row}
use Rattle.code_join.specs.Keys.{Keyed}
use Rattle.code_group.specs.Entries.{picked_beside, entries_of, key_of_entries}
use Rattle.code_group.specs.Tuples.{same_tuple}
use Rattle.late_decode.specs.declared.plan.GroupPlan.{GroupPlan}
use Rattle.late_decode.specs.Groups.{Grouped, rows_added, groups_added}
use Rattle.late_decode.specs.Parts.{Picked}
use Rattle.late_decode.specs.PlannedRows.{key_of}

-- what picks have beside a row of codes of a cell of these class numbers
abbrev pub picked_of : TableImage → CellImage → GroupPlan → List Keyed → List ℕ → Picked
picked_of image cell plan keys codes = picked_beside plan.ties keys (decoded_row image.columns cell.classes codes)

-- the tuple of a row of codes
abbrev pub tuple_of : TableImage → CellImage → GroupPlan → List Keyed → List ℕ → List ℕ
tuple_of image cell plan keys codes = entries_of image.columns cell.classes plan.ties keys plan.keys codes

-- rows of a cell added to its groups
abbrev pub cell_rows_added : TableImage → CellImage → GroupPlan → List Keyed → List (List ℕ) → Grouped (List ℕ) → Grouped (List ℕ)
cell_rows_added image cell plan keys rows groups = rows_added same_tuple plan.measures (tuple_of image cell plan keys) (picked_of image cell plan keys) rows groups

-- the groups of a cell, added at the keys that their tuples stand for
abbrev pub spilled : TableImage → CellImage → GroupPlan → List Keyed → Grouped (List ℕ) → Grouped Row → Grouped Row
spilled image cell plan keys cell_groups groups = groups_added same_row plan.measures (key_of_entries image.columns cell.classes keys plan.keys) cell_groups groups

-- the groups of cells with selected rows, added one after another
abbrev pub cells_added : TableImage → GroupPlan → List Keyed → List (CellImage × List (List ℕ)) → Grouped Row → Grouped Row
cells_added image plan keys [] groups = groups
cells_added image plan keys (cell ∷ cells) groups = cells_added image plan keys cells (spilled image cell.0 plan keys (cell_rows_added image cell.0 plan keys cell.1 []) groups)

-- rows in no cell, added one after another
abbrev pub rest_added : GroupPlan → List Keyed → List Row → Grouped Row → Grouped Row
rest_added plan keys rows groups = rows_added same_row plan.measures (λ row. key_of plan.keys (picked_beside plan.ties keys row)) (picked_beside plan.ties keys) rows groups

-- the groups of selected rows of the cells, and then of rows of rest
abbrev pub image_groups : TableImage → GroupPlan → List Keyed → List (CellImage × List (List ℕ)) → List Row → Grouped Row
image_groups image plan keys cells rest = rest_added plan keys rest (cells_added image plan keys cells [])
