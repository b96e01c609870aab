use Rattle.std.proofs.Common.{◌≡◌, IfOk, List, length, arith, ap, subst}
use Rattle.order_codes.specs.Dictionary.{Classes}
use Rattle.cell_layout.specs.Image.{TableImage, decoded_row}
use Rattle.cell_layout.specs.CellRepr.{row_of_codes}
use Rattle.cell_layout.proofs.CellReprLemmas.{row_in_cell, row_in_rest, copied_row}
use Rattle.cell_layout.proofs.image.Image.row.Goals as goal

pub returns-then-left-cell-clause-row : goal.returns-then-left-cell-clause-row
returns-then-left-cell-clause-row g c =
    let inside = c.self.inside in
    row_in_cell c.args.self.now inside.schema inside.dicts inside.cells.0 c.as_slice-cell-items.result.now inside.rest.0 c.loop-cell.cell-index c.loop-cell.left c.args.number c.cell-item.result c.decoded.result
    c.self.view_is c.as_slice-cell-items.ensures c.cell-item.is c.loop-cell-test.true c.if-left-cell.true c.loop-cell.invariant.place
    (subst (λ (dicts : List Classes). IfOk c.decoded.result (λ values. values ≡ decoded_row dicts c.cell-item.result.classes (row_of_codes c.cell-item.result.codes c.loop-cell.left))) c.as_slice.ensures c.decoded.ensures.row)

pub returns-then-left-cell-clause-decodes : goal.returns-then-left-cell-clause-decodes
returns-then-left-cell-clause-decodes g c =
    let rise = c.decoded.ensures.decodes in
    let before = c.loop-cell.invariant.decodes in
    let dicts = ap length c.as_slice.ensures in
    let view = ap (λ (i : TableImage). length i.columns) c.self.view_is in
    omega arith

pub bounds-as_slice-left : goal.bounds-as_slice-left
bounds-as_slice-left g c =
    let inside = c.self.inside in
    let here = row_in_rest c.args.self.now inside.schema inside.dicts inside.cells.0 c.as_slice-cell-items.result.now inside.rest.0 c.loop-cell.cell-index c.loop-cell.left c.args.number c.self.view_is c.as_slice-cell-items.ensures
    c.loop-cell-test.false c.loop-cell.invariant.place c.requires in
    let left = here.inside in
    let rest = ap length c.as_slice-2.ensures in
    omega arith

pub offset_bounds-as_slice-left : goal.offset_bounds-as_slice-left
offset_bounds-as_slice-left g c =
    let inside = c.self.inside in
    let here = row_in_rest c.args.self.now inside.schema inside.dicts inside.cells.0 c.as_slice-cell-items.result.now inside.rest.0 c.loop-cell.cell-index c.loop-cell.left c.args.number c.self.view_is c.as_slice-cell-items.ensures
    c.loop-cell-test.false c.loop-cell.invariant.place c.requires in
    let left = here.inside in
    let rest = ap length c.as_slice-2.ensures in
    let sized = c.as_slice-2.type_inv in
    omega arith

pub returns-clause-row : goal.returns-clause-row
returns-clause-row g c =
    let inside = c.self.inside in
    let here = row_in_rest c.args.self.now inside.schema inside.dicts inside.cells.0 c.as_slice-cell-items.result.now inside.rest.0 c.loop-cell.cell-index c.loop-cell.left c.args.number c.self.view_is c.as_slice-cell-items.ensures
    c.loop-cell-test.false c.loop-cell.invariant.place c.requires in
    copied_row c.args.self.now inside.rest.0 c.as_slice-2.result.now c.args.number c.loop-cell.left c.index-as_slice-left.result c.copy.result here c.as_slice-2.ensures c.index-as_slice-left.is c.copy.ensures

pub returns-clause-decodes : goal.returns-clause-decodes
returns-clause-decodes g c =
    let before = c.loop-cell.invariant.decodes in
    omega arith
