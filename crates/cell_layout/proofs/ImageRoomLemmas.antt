-- Cells that are the same but for the room of their columns.
use Rattle.std.proofs.Common.{◌≡◌, ℕ, ◌+◌, List, [], ◌∷◌, map, length, get_or, sum_by, All, refl, sym, ap, ◌∙◌, arith}
use Rattle.std.proofs.lemmas.List.{get_or-map, length-map}
use Rattle.std.proofs.lemmas.List.Sums.{sum_by-cons}
use Rattle.bank_pack.specs.Banks.{BankColumns}
use Rattle.blink_base.specs.declared.schema.Schema.{Schema}
use Rattle.blink_base.specs.Values.{Row}
use Rattle.blink_lists.specs.Lists.{numbers_from, rises}
use Rattle.order_codes.specs.Dictionary.{Classes}
use Rattle.cell_layout.specs.declared.cell.Cell.{Cell}
use Rattle.cell_layout.specs.Image.{CellImage}
use Rattle.cell_layout.specs.Layout.{cell_cmp}
use Rattle.cell_layout.specs.Blocks.{banks_for}
use Rattle.cell_layout.specs.Valid.{is_cell}
use Rattle.cell_layout.specs.CellRepr.{IsImageRepr, IsCellRepr, cell_image, image_of, row_of_codes}
use Rattle.cell_layout.specs.CellIndex.{keys_of_cells}
use Rattle.cell_layout.specs.RowPartition.{ArePlaced}
use Rattle.cell_layout.specs.InsertRowRepr.{rows_in_all}
use Rattle.cell_layout.specs.MergeCells.{bare_cell, IsSameButRoom}

-- a cell as bare_cell has it
abbrev Bare : Type 0
Bare = List ℕ × List BankColumns × List (List ℕ) × ℕ

abbrev bare_image : Bare → CellImage
bare_image bare = record { classes = bare.0; rows = map (λ row. map (λ l. get_or l row 0) bare.2) (numbers_from 0 bare.3) }

row_bare : (columns : List (List ℕ × ℕ)) (row : ℕ) → row_of_codes columns row ≡ map (λ l. get_or l row 0) (map (λ c. c.0) columns)
row_bare [] row = refl
row_bare (c ∷ columns) row = ap (λ l. get_or c.0 row 0 ∷ l) (row_bare columns row)

image_bare : (cell : Cell) → cell_image cell ≡ bare_image (bare_cell cell)
image_bare cell = λ i. record { classes = cell.classes; rows = map (λ row. row_bare cell.codes row i) (numbers_from 0 cell.rows) }

images_bare : (cells : List Cell) → map cell_image cells ≡ map bare_image (map bare_cell cells)
images_bare [] = refl
images_bare (cell ∷ cells) = let one = image_bare cell in let rest = images_bare cells in λ i. one i ∷ rest i

keys_bare : (cells : List Cell) → keys_of_cells cells ≡ map (λ (b : Bare). b.0) (map bare_cell cells)
keys_bare [] = refl
keys_bare (cell ∷ cells) = ap (λ l. cell.classes ∷ l) (keys_bare cells)

rows_bare : (cells : List Cell) → rows_in_all cells ≡ sum_by (λ (b : Bare). b.3) (map bare_cell cells)
rows_bare [] = refl
rows_bare (cell ∷ cells) = sum_by-cons (λ (c : Cell). c.rows) cell cells ∙ ap (λ n. cell.rows + n) (rows_bare cells) ∙ sym (sum_by-cons (λ (b : Bare). b.3) (bare_cell cell) (map bare_cell cells))

repr_bare : (columns : List Classes) (old new : Cell) → bare_cell new ≡ bare_cell old → IsCellRepr columns old → IsCellRepr columns new
repr_bare columns old new e repr =
    let classes : new.classes ≡ old.classes = ap (λ (b : Bare). b.0) e in
    let plan : new.plan ≡ old.plan = ap (λ (b : Bare). b.1) e in
    let codes : map (λ (l : List ℕ × ℕ). l.0) new.codes ≡ map (λ (l : List ℕ × ℕ). l.0) old.codes = ap (λ (b : Bare). b.2) e in
    let rows : new.rows ≡ old.rows = ap (λ (b : Bare). b.3) e in
    let image : cell_image new ≡ cell_image old = image_bare new ∙ ap bare_image e ∙ sym (image_bare old) in
    let count : length new.codes ≡ length old.codes = sym (length-map new.codes (λ (l : List ℕ × ℕ). l.0)) ∙ ap length codes ∙ length-map old.codes (λ (l : List ℕ × ℕ). l.0) in
    record {
      plan = plan ∙ repr.plan ∙ ap (banks_for columns) (sym classes);
      lists = count ∙ repr.lists;
      full = λ k d lt.
          ap length (sym (get_or-map (λ (l : List ℕ × ℕ). l.0) new.codes k d [] lt) ∙ ap (λ l. get_or l k []) codes ∙ get_or-map (λ (l : List ℕ × ℕ). l.0) old.codes k d [] (omega arith))
          ∙ repr.full k d (omega arith) ∙ sym rows;
      good = ap (is_cell columns) image ∙ repr.good;
    }

module _ (old new : List Cell) (same : map bare_cell new ≡ map bare_cell old) where
  images_same : map cell_image new ≡ map cell_image old
  images_same = images_bare new ∙ ap (map bare_image) same ∙ sym (images_bare old)

  keys_same : keys_of_cells new ≡ keys_of_cells old
  keys_same = keys_bare new ∙ ap (map (λ (b : Bare). b.0)) same ∙ sym (keys_bare old)

  rows_same : rows_in_all new ≡ rows_in_all old
  rows_same = rows_bare new ∙ ap (sum_by (λ (b : Bare). b.3)) same ∙ sym (rows_bare old)

  repr_same : (columns : List Classes) → All (IsCellRepr columns) old → All (IsCellRepr columns) new
  repr_same columns repr k d lt =
      let count : length new ≡ length old = sym (length-map new bare_cell) ∙ ap length same ∙ length-map old bare_cell in
      repr_bare columns (get_or old k d) (get_or new k d)
      (sym (get_or-map bare_cell new k d (bare_cell d) lt) ∙ ap (λ l. get_or l k (bare_cell d)) same ∙ get_or-map bare_cell old k d (bare_cell d) (omega arith))
      (repr k d (omega arith))

-- the rows that cells are placed for
pub same_placed : (columns : List Classes) (rows : List Row) (old new : List Cell) (rest more : List Row) → IsSameButRoom old rest new more → ArePlaced columns rows old rest → ArePlaced columns rows new more
same_placed columns rows old new rest more same placed =
    let one = rows_same old new same.same_cells in
    let two = ap length same.same_rest in
    let counted = placed.counted in
    record {
      image = images_same old new same.same_cells ∙ placed.image;
      others = same.same_rest ∙ placed.others;
      repr = repr_same old new same.same_cells columns placed.repr;
      order = ap (rises cell_cmp) (keys_same old new same.same_cells) ∙ placed.order;
      counted = omega arith;
    }

-- the image that cells stand for
pub same_image : (schema : Schema) (columns : List Classes) (old new : List Cell) (rest more : List Row) → IsSameButRoom old rest new more → image_of schema columns new more ≡ image_of schema columns old rest
same_image schema columns old new rest more same =
    let cells = images_same old new same.same_cells in
    let others = same.same_rest in
    λ i. record { schema = schema; columns = columns; cells = cells i; rest = others i }

-- and it is in memory as before
pub same_repr : (schema : Schema) (columns : List Classes) (old new : List Cell) (rest more : List Row) (rows : ℕ) → IsSameButRoom old rest new more → IsImageRepr schema columns old rest rows → IsImageRepr schema columns new more rows
same_repr schema columns old new rest more rows same repr =
    let one = rows_same old new same.same_cells in
    let two = ap length same.same_rest in
    let counted = repr.counted in
    record {
      each = repr.each;
      few = repr.few;
      repr = repr_same old new same.same_cells columns repr.repr;
      order = ap (rises cell_cmp) (keys_same old new same.same_cells) ∙ repr.order;
      counted = omega arith;
      most = repr.most;
    }
