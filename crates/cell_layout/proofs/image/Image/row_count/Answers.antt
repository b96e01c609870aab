use Rattle.std.proofs.Common.{sym}
use Rattle.cell_layout.proofs.GrownImageLemmas.{row_count_is}
use Rattle.cell_layout.proofs.image.Image.row_count.Goals as goal

pub returns : goal.returns
returns g c =
    let inside = c.self.inside in
    sym (row_count_is c.args.self.now inside.schema inside.dicts inside.cells.0 inside.rest.0 inside.rows c.self.view_is c.self.invariant)
