-- One more row among cells that stand in order. Source: this project's own.
use Rattle.std.specs.Prelude.{◌≡◌, ℕ, List, [], ◌∷◌, ◌++◌, map}
use Rattle.std.specs.Bool.{⊤}
use Rattle.std.specs.declared.cmp.Ordering.TheVariants.{Less, Equal, Greater}
use Rattle.cell_layout.specs.Image.{CellImage, CodedRow}
use Rattle.cell_layout.specs.Layout.{cell_cmp}

-- a cell of one row
abbrev pub one_row : CodedRow → CellImage
one_row r = record { classes = r.classes; rows = r.codes ∷ [] }

-- a cell with a row behind its others
abbrev pub with_row : CellImage → CodedRow → CellImage
with_row cell r = record { classes = cell.classes; rows = cell.rows ++ r.codes ∷ [] }

-- cells in order with one more row: behind the rows of its cell, or in a new cell
abbrev pub put_row : CodedRow → List CellImage → List CellImage
put_row r [] = one_row r ∷ []
put_row r (cell ∷ cells) = elim (cell_cmp r.classes cell.classes) [ Less ↦ one_row r ∷ cell ∷ cells | Equal ↦ with_row cell r ∷ cells | Greater ↦ cell ∷ put_row r cells ]

-- the class numbers of cells
abbrev pub keys_in : List CellImage → List (List ℕ)
keys_in cells = map (λ cell. cell.classes) cells

-- class numbers that stand before each of the others
abbrev pub Above : List ℕ → List (List ℕ) → Type 0
Above y [] = ⊤
Above y (z ∷ zs) = (cell_cmp y z ≡ Less) × Above y zs

-- each stands before those behind it
abbrev pub Rising : List (List ℕ) → Type 0
Rising [] = ⊤
Rising (y ∷ ys) = Above y ys × Rising ys
