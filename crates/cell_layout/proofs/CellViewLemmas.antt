-- What calls tell of a cell of an image.
use Rattle.std.proofs.Common.{◌≡◌, ◌≤◌, ◌<◌, ℕ, List, length, get_or, sym, ap, ◌∙◌, arith}
use Rattle.blink_base.specs.declared.schema.Schema.{Schema}
use Rattle.blink_base.specs.Values.{Row}
use Rattle.blink_lists.proofs.SliceLemmas.{item_of}
use Rattle.order_codes.specs.Dictionary.{Classes}
use Rattle.cell_layout.specs.declared.cell.Cell.{Cell}
use Rattle.cell_layout.specs.Blocks.{cell_banks, banks_for}
use Rattle.cell_layout.specs.CellRepr.{image_of, IsCellRepr, IsImageRepr, most_image_rows}
use Rattle.cell_layout.specs.Image.{TableImage, CellImage, cell_at}
use Rattle.cell_layout.proofs.CellReprLemmas.{cell_seen, length-rows, rows_within}

-- a cell in memory is that of the image at its index
pub record IsCellAt (image : TableImage) (k : ℕ) (cell : Cell) : Type 0 where
  pub classes : cell.classes ≡ (cell_at image k).classes
  pub count : cell.rows ≡ length (cell_at image k).rows
  pub banks : cell.plan ≡ cell_banks image (cell_at image k)
  pub few : cell.rows ≤ most_image_rows

pub cell_told : (image : TableImage) (schema : Schema) (columns : List Classes) (cells list : List Cell) (rest : List Row) (rows k : ℕ) (cell : Cell) → image_of schema columns cells rest ≡ image → IsImageRepr schema columns cells rest rows
    → list ≡ cells → cell ≡ get_or list k cell → k < length image.cells → IsCellAt image k cell
cell_told image schema columns cells list rest rows k cell view is_repr same is lt =
    let seen = cell_seen image schema columns cells rest k cell view lt (is ∙ ap (λ l. get_or l k cell) same) in
    let within : k < length list = let n = ap length same in omega (arith, n, seen.0) in
    let repr = item_of (IsCellRepr columns) list cells k cell is_repr.repr same is within in
    let few = rows_within cells list rest rows k cell is_repr.counted is_repr.most same is within in
    let of_columns : columns ≡ image.columns = ap (λ (i : TableImage). i.columns) view in
    let of_classes : cell.classes ≡ (cell_at image k).classes = ap (λ (i : CellImage). i.classes) (sym seen.1) in
    record {
      classes = of_classes;
      count = sym (length-rows cell.codes cell.rows) ∙ ap (λ (i : CellImage). length i.rows) (sym seen.1);
      banks = repr.plan ∙ (λ i. banks_for (of_columns i) (of_classes i));
      few = omega (arith, few);
    }
