use Rattle.std.proofs.Common.{ap, ◌∙◌}
use Rattle.bank_pack.specs.Banks.{pages_for}
use Rattle.cell_layout.proofs.CellViewLemmas.{cell_told}
use Rattle.cell_layout.proofs.image.Image.cell_pages.Goals as goal

pub pages-requires : goal.pages-requires
pages-requires g c =
    let inside = c.self.inside in
    let told = cell_told c.args.self.now inside.schema inside.dicts inside.cells.0 c.as_slice.result.now inside.rest.0 inside.rows c.args.cell c.index-as_slice-cell.result c.self.view_is c.self.invariant
    c.as_slice.ensures c.index-as_slice-cell.is c.requires in
    told.few

pub returns : goal.returns
returns g c =
    let inside = c.self.inside in
    let told = cell_told c.args.self.now inside.schema inside.dicts inside.cells.0 c.as_slice.result.now inside.rest.0 inside.rows c.args.cell c.index-as_slice-cell.result c.self.view_is c.self.invariant
    c.as_slice.ensures c.index-as_slice-cell.is c.requires in
    c.pages.ensures ∙ ap pages_for told.count
