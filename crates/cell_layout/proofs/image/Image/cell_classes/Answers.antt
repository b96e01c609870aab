use Rattle.std.proofs.Common.{sym, ap, ◌∙◌}
use Rattle.cell_layout.specs.declared.cell.Cell.{Cell}
use Rattle.cell_layout.proofs.CellViewLemmas.{cell_told}
use Rattle.cell_layout.proofs.image.Image.cell_classes.Goals as goal

pub returns : goal.returns
returns g c =
    let inside = c.self.inside in
    let told = cell_told c.args.self.now inside.schema inside.dicts inside.cells.0 c.as_slice.result.now inside.rest.0 inside.rows c.args.cell c.index-as_slice-cell.result c.self.view_is c.self.invariant
    c.as_slice.ensures c.index-as_slice-cell.is c.requires in
    c.as_slice-2.ensures ∙ ap (λ (x : Cell). x.classes) (sym c.index-as_slice-cell.is) ∙ told.classes
