-- What rows laid out anew are.
use Rattle.std.proofs.Common.{◌≡◌, ◌≤◌, ℕ, List, length, sym, ap, ◌∙◌, subst, true, arith}
use Rattle.blink_lists.specs.Rearrangement.{Rearranged}
use Rattle.blink_base.specs.declared.schema.Schema.{Schema}
use Rattle.blink_base.specs.Values.{Row}
use Rattle.order_codes.specs.Dictionary.{Classes}
use Rattle.cell_layout.specs.declared.cell.Cell.{Cell}
use Rattle.cell_layout.specs.Image.{TableImage, rows_of}
use Rattle.cell_layout.specs.Layout.{laid}
use Rattle.cell_layout.specs.CellRepr.{IsImageRepr}
use Rattle.blink_lists.specs.declared.limits.TheConstants.{MOST_COLUMNS, MOST_ROWS}
use Rattle.cell_layout.specs.RowPartition.{ArePlaced}
use Rattle.cell_layout.specs.Valid.{is_valid, MayHold, LaidIsValid}

-- what placed rows stand for
pub placed_repr : (schema copy : Schema) (columns : List Classes) (rows : List Row) (cells : List Cell) (rest : List Row) (n : ℕ) → ArePlaced columns rows cells rest → copy ≡ schema → length columns ≡ length schema.columns
    → length schema.columns ≤ MOST_COLUMNS → n ≡ length rows → n ≤ MOST_ROWS → IsImageRepr copy columns cells rest n
placed_repr schema copy columns rows cells rest n placed same each few long most =
    record {
      each = each ∙ ap (λ (s : Schema). length s.columns) (sym same);
      few = omega arith;
      repr = placed.repr;
      order = placed.order;
      counted = long ∙ sym placed.counted;
      most = omega arith;
    }

-- rows laid out anew are a valid image of these rows
pub laid_valid : LaidIsValid → (schema : Schema) (rows : List Row) (image : TableImage) → MayHold schema rows → image ≡ laid schema rows → is_valid image ≡ true
laid_valid law schema rows image may is = ap is_valid is ∙ (law schema rows may).0

pub laid_rows : LaidIsValid → (schema : Schema) (rows : List Row) (image : TableImage) → MayHold schema rows → image ≡ laid schema rows → Rearranged rows (rows_of image)
laid_rows law schema rows image may is = subst (λ (i : TableImage). Rearranged rows (rows_of i)) (sym is) (law schema rows may).1
