use Rattle.std.proofs.Common.{sum_by, arith, ap, sym, ◌∙◌}
use Rattle.std.proofs.lemmas.List.{take_all}
use Rattle.cell_layout.specs.Blocks.{blocks}
use Rattle.cell_layout.specs.CellRepr.{IsCellRepr}
use Rattle.cell_layout.proofs.CellReprLemmas.{rows_within}
use Rattle.blink_lists.proofs.SliceLemmas.{item_of}
use Rattle.cell_layout.proofs.BlockLemmas.{plan_few, blocks-image, blocks_in}
use Rattle.cell_layout.proofs.image.Image.blocks.Goals as goal

pub blocks-blocks-requires-clause-banks : goal.blocks-blocks-requires-clause-banks
blocks-blocks-requires-clause-banks g c =
    plan_few c.self.inside.dicts c.cell-item.result
    (item_of (IsCellRepr c.self.inside.dicts) c.as_slice-cell-items.result.now c.self.inside.cells.0 c.loop-cell.cell-index c.cell-item.result c.self.invariant.repr c.as_slice-cell-items.ensures c.cell-item.is c.loop-cell-test.true)
    c.self.invariant.few

pub blocks-blocks-requires-clause-rows : goal.blocks-blocks-requires-clause-rows
blocks-blocks-requires-clause-rows g c =
    let w = rows_within c.self.inside.cells.0 c.as_slice-cell-items.result.now c.self.inside.rest.0 c.self.inside.rows c.loop-cell.cell-index c.cell-item.result c.self.invariant.counted c.self.invariant.most
    c.as_slice-cell-items.ensures c.cell-item.is c.loop-cell-test.true in
    omega arith

pub overflow_add-blocks : goal.overflow_add-blocks
overflow_add-blocks g c =
    let w = rows_within c.self.inside.cells.0 c.as_slice-cell-items.result.now c.self.inside.rest.0 c.self.inside.rows c.loop-cell.cell-index c.cell-item.result c.self.invariant.counted c.self.invariant.most
    c.as_slice-cell-items.ensures c.cell-item.is c.loop-cell-test.true in
    let so_far = c.loop-cell.invariant.few in
    let here = c.blocks-blocks.ensures.few in
    omega arith

pub returns : goal.returns
returns g c =
    let inside = c.self.inside in
    c.loop-cell.invariant.so_far ∙ ap (sum_by blocks_in) (take_all c.loop-cell.cell-index c.as_slice-cell-items.result.now c.loop-cell-test.false) ∙ ap (sum_by blocks_in) c.as_slice-cell-items.ensures
    ∙ sym (blocks-image inside.schema inside.dicts inside.rest.0 inside.cells.0 inside.cells.0 c.self.invariant.repr) ∙ ap blocks c.self.view_is
