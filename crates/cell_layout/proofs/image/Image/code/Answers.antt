use Rattle.std.proofs.Common.{◌<◌, [], get_or, ap, sym, ◌∙◌}
use Rattle.cell_layout.specs.Image.{CellImage}
use Rattle.cell_layout.proofs.CellReprLemmas.{cell_seen, length-rows, row_at}
use Rattle.cell_layout.proofs.image.Image.code.Goals as goal

pub code-requires-clause-row : goal.code-requires-clause-row
code-requires-clause-row g c =
    let inside = c.self.inside in
    let seen = cell_seen c.args.self.now inside.schema inside.dicts inside.cells.0 inside.rest.0 c.args.cell c.index-as_slice-cell.result c.self.view_is c.requires.cell
    (c.index-as_slice-cell.is ∙ ap (λ l. get_or l c.args.cell c.index-as_slice-cell.result) c.as_slice.ensures) in
    rw (length-rows c.index-as_slice-cell.result.codes c.index-as_slice-cell.result.rows) at (rw seen.1 at c.requires.row)

pub returns : goal.returns
returns g c =
    let inside = c.self.inside in
    let cell = c.index-as_slice-cell.result in
    let seen = cell_seen c.args.self.now inside.schema inside.dicts inside.cells.0 inside.rest.0 c.args.cell cell c.self.view_is c.requires.cell
    (c.index-as_slice-cell.is ∙ ap (λ l. get_or l c.args.cell cell) c.as_slice.ensures) in
    let within : c.args.row < cell.rows = rw (length-rows cell.codes cell.rows) at (rw seen.1 at c.requires.row) in
    c.code.ensures ∙ ap (λ l. get_or l c.args.column 0) (sym (row_at cell.codes cell.rows c.args.row [] within))
    ∙ ap (λ (i : CellImage). get_or (get_or i.rows c.args.row []) c.args.column 0) (sym seen.1)
