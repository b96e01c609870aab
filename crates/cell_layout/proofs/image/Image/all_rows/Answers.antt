use Rattle.std.proofs.Common.{◌++◌, sym, ap, ◌∙◌}
use Rattle.std.specs.List.{flat_map}
use Rattle.std.proofs.lemmas.List.{take_all}
use Rattle.cell_layout.specs.CellRepr.{rows_in}
use Rattle.cell_layout.proofs.CellReprLemmas.{rows_seen}
use Rattle.cell_layout.proofs.image.Image.all_rows.Goals as goal

pub returns : goal.returns
returns g c =
    let inside = c.self.inside in
    c.in_ok-push_copies.ensures
    ∙ (λ i. (c.loop-cell.invariant ∙ ap (flat_map (rows_in inside.dicts)) (take_all c.loop-cell.cell-index c.as_slice-cell-items.result.now c.loop-cell-test.false ∙ c.as_slice-cell-items.ensures)) i ++ c.as_slice-2.ensures i)
    ∙ sym (rows_seen c.args.self.now inside.schema inside.dicts inside.cells.0 inside.rest.0 c.self.view_is)
