use Rattle.std.proofs.Common.{refl, sym, ap, subst}
use Rattle.cell_layout.specs.Image.{TableImage}
use Rattle.cell_layout.specs.Refusals.{duplicate_in, IsRefusal}
use Rattle.cell_layout.specs.CellRepr.{all_rows}
use Rattle.cell_layout.proofs.GrownImageLemmas.{beyond, within, by_keys, rows_read, on_ok}
use Rattle.cell_layout.proofs.image.Image.admit.Goals as goal

pub returns-then-exceed-clause-refused : goal.returns-then-exceed-clause-refused
returns-then-exceed-clause-refused g c =
    let inside = c.self.inside in
    λ other. beyond c.args.self.now inside.schema inside.dicts inside.cells.0 inside.rest.0 c.args.batch.now inside.rows c.args.limit c.len.result c.self.view_is c.self.invariant c.len.ensures c.if-exceed.ensures

pub returns-clause-refused : goal.returns-clause-refused
returns-clause-refused g c =
    let inside = c.self.inside in
    let few = within c.args.self.now inside.schema inside.dicts inside.cells.0 inside.rest.0 c.args.batch.now inside.rows c.args.limit c.len.result c.self.view_is c.self.invariant c.len.ensures c.if-exceed.ensures in
    let held = rows_read c.args.self.now inside.schema inside.dicts c.as_slice.result.now inside.cells.0 c.as_slice-2.result.now inside.rest.0 c.as_slice-3.result.now c.self.view_is c.as_slice.ensures c.as_slice-2.ensures c.as_slice-3.ensures in
    let keys = by_keys c.args.limit c.args.self.now c.args.batch.now (all_rows c.as_slice.result.now c.as_slice-2.result.now c.as_slice-3.result.now) c.as_slice-4.result.now inside.schema.key
    (duplicate_in inside.schema.key (all_rows c.as_slice.result.now c.as_slice-2.result.now c.as_slice-3.result.now) c.as_slice-4.result.now) few (ap (λ (i : TableImage). i.schema.key) c.self.view_is) held c.as_slice-4.ensures refl in
    subst (IsRefusal c.keys_apart.result) (sym keys) c.keys_apart.ensures

pub returns-clause-few : goal.returns-clause-few
returns-clause-few g c =
    let inside = c.self.inside in
    on_ok c.keys_apart.result (within c.args.self.now inside.schema inside.dicts inside.cells.0 inside.rest.0 c.args.batch.now inside.rows c.args.limit c.len.result c.self.view_is c.self.invariant c.len.ensures c.if-exceed.ensures)
