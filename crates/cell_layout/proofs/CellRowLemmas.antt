-- The rows of cells, one behind the other.
use Rattle.std.proofs.Common.{◌≡◌, ◌≤◌, ◌<◌, ℕ, ◌+◌, List, [], ◌∷◌, ◌++◌, take, get_or, sym, ap, ◌∙◌, arith}
use Rattle.std.proofs.lemmas.List.{append_assoc, take_more, take_all, get_or-map}
use Rattle.blink_base.specs.Values.{Row}
use Rattle.order_codes.specs.Dictionary.{Classes}
use Rattle.cell_layout.specs.declared.cell.Cell.{Cell}
use Rattle.cell_layout.specs.Image.{decoded_row}
use Rattle.cell_layout.specs.CellRepr.{row_of_codes, rows_of_codes, rows_in}
use Rattle.cell_layout.proofs.CellReprLemmas.{length-in, length-rows, row_at}

-- one more row of a cell
pub row_pushed : (columns : List Classes) (cell : Cell) (row : ℕ) (values : Row) (start so_far more : List Row) → row < cell.rows → values ≡ decoded_row columns cell.classes (row_of_codes cell.codes row)
    → so_far ≡ start ++ take row (rows_in columns cell) → more ≡ so_far ++ values ∷ [] → more ≡ start ++ take (row + 1) (rows_in columns cell)
row_pushed columns cell row values start so_far more lt here front pushed =
    let long = length-in columns cell in
    let codes = length-rows cell.codes cell.rows in
    let value : get_or (rows_in columns cell) row [] ≡ values =
    get_or-map (decoded_row columns cell.classes) (rows_of_codes cell.codes cell.rows) row [] [] (omega arith) ∙ ap (decoded_row columns cell.classes) (row_at cell.codes cell.rows row [] lt) ∙ sym here in
    pushed ∙ ap (λ l. l ++ values ∷ []) front ∙ append_assoc start (take row (rows_in columns cell)) (values ∷ [])
    ∙ ap (λ l. start ++ l) (sym (take_more (rows_in columns cell) row [] (omega arith) ∙ ap (λ x. take row (rows_in columns cell) ++ x ∷ []) value))

pub rows_pushed : (columns : List Classes) (cell : Cell) (row : ℕ) (start rows : List Row) → cell.rows ≤ row → rows ≡ start ++ take row (rows_in columns cell) → rows ≡ start ++ rows_in columns cell
rows_pushed columns cell row start rows le is = let long = length-in columns cell in is ∙ ap (λ l. start ++ l) (take_all row (rows_in columns cell) (omega arith))
