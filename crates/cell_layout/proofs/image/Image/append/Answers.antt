use Rattle.std.proofs.Common.{◌+◌, ◌++◌, ◌∙◌, arith}
use Rattle.std.proofs.lemmas.List.{length-append}
use Rattle.std.proofs.lemmas.Result.{err_from_is_err_and}
use Rattle.cell_layout.specs.Image.{rows_of}
use Rattle.cell_layout.specs.CellRepr.{image_of}
use Rattle.cell_layout.proofs.GrownImageLemmas.{may_lie, row_count_is, standing_placed, placed_apart, grown_image_is, grown_repr, grown_valid, grown_rows}
use Rattle.cell_layout.proofs.ImageRoomLemmas.{same_image, same_repr}
use Rattle.cell_layout.proofs.image.Image.append.Goals as goal

pub add_placed-requires : goal.add_placed-requires
add_placed-requires g c =
    let inside = c.self.inside in
    let few = c.in_ok-admit.ensures.few in
    let standing = standing_placed c.standing_rows_keep_their_places.ensures c.args.self.now inside.schema inside.dicts inside.cells.0 inside.rest.0 inside.rows c.requires.valid c.self.view_is c.self.invariant in
    let added = placed_apart inside.dicts c.as_slice.result.now c.args.batch.now c.as_slice-2.result.now c.in_ok-placed.placed.cells.0 c.in_ok-placed.placed.rest.0 c.as_slice.ensures c.as_slice-2.ensures c.in_ok-placed.ensures in
    let most = c.requires.limit in
    record { columns = inside.dicts; rows = rows_of c.args.self.now; batch = c.args.batch.now; standing = standing; added = added; few = omega arith }

pub invariant_of-self : goal.invariant_of-self
invariant_of-self g c =
    let inside = c.self.inside in
    same_repr inside.schema inside.dicts inside.cells.0 c.add_placed.new.cells.0 inside.rest.0 c.add_placed.new.rest.0 inside.rows c.in_err-add_placed.ensures.err c.self.invariant

pub returns-in_err-add_placed-clause-kept : goal.returns-in_err-add_placed-clause-kept
returns-in_err-add_placed-clause-kept g c =
    let inside = c.self.inside in
    let p = err_from_is_err_and c.from_residual-in_err-add_placed.result c.from_residual-in_err-add_placed.ensures.1 in
    rw p.1 (same_image inside.schema inside.dicts inside.cells.0 c.add_placed.new.cells.0 inside.rest.0 c.add_placed.new.rest.0 c.in_err-add_placed.ensures.err ∙ c.self.view_is)

pub invariant_of-self-2 : goal.invariant_of-self-2
invariant_of-self-2 g c =
    let inside = c.self.inside in
    let few = c.in_ok-admit.ensures.few in
    let standing = standing_placed c.standing_rows_keep_their_places.ensures c.args.self.now inside.schema inside.dicts inside.cells.0 inside.rest.0 inside.rows c.requires.valid c.self.view_is c.self.invariant in
    let added = placed_apart inside.dicts c.as_slice.result.now c.args.batch.now c.as_slice-2.result.now c.in_ok-placed.placed.cells.0 c.in_ok-placed.placed.rest.0 c.as_slice.ensures c.as_slice-2.ensures c.in_ok-placed.ensures in
    let all = c.in_ok-add_placed.ensures.ok inside.dicts (rows_of c.args.self.now) c.args.batch.now standing added in
    let count = row_count_is c.args.self.now inside.schema inside.dicts inside.cells.0 inside.rest.0 inside.rows c.self.view_is c.self.invariant in
    let long = length-append (rows_of c.args.self.now) c.args.batch.now in
    let len = c.len.ensures in
    let most = c.requires.limit in
    grown_repr inside.schema inside.dicts inside.cells.0 c.add_placed.new.cells.0 inside.rest.0 c.add_placed.new.rest.0 (rows_of c.args.self.now ++ c.args.batch.now) inside.rows (inside.rows + c.len.result) c.self.invariant all (omega arith) (omega arith)

pub returns-clause-grown : goal.returns-clause-grown
returns-clause-grown g c =
    let inside = c.self.inside in
    let standing = standing_placed c.standing_rows_keep_their_places.ensures c.args.self.now inside.schema inside.dicts inside.cells.0 inside.rest.0 inside.rows c.requires.valid c.self.view_is c.self.invariant in
    let added = placed_apart inside.dicts c.as_slice.result.now c.args.batch.now c.as_slice-2.result.now c.in_ok-placed.placed.cells.0 c.in_ok-placed.placed.rest.0 c.as_slice.ensures c.as_slice-2.ensures c.in_ok-placed.ensures in
    let all = c.in_ok-add_placed.ensures.ok inside.dicts (rows_of c.args.self.now) c.args.batch.now standing added in
    grown_image_is c.args.self.now inside.schema inside.dicts inside.cells.0 c.add_placed.new.cells.0 inside.rest.0 c.add_placed.new.rest.0 c.args.batch.now c.self.view_is all

pub returns-clause-valid : goal.returns-clause-valid
returns-clause-valid g c =
    let inside = c.self.inside in
    let few = c.in_ok-admit.ensures.few in
    let standing = standing_placed c.standing_rows_keep_their_places.ensures c.args.self.now inside.schema inside.dicts inside.cells.0 inside.rest.0 inside.rows c.requires.valid c.self.view_is c.self.invariant in
    let added = placed_apart inside.dicts c.as_slice.result.now c.args.batch.now c.as_slice-2.result.now c.in_ok-placed.placed.cells.0 c.in_ok-placed.placed.rest.0 c.as_slice.ensures c.as_slice-2.ensures c.in_ok-placed.ensures in
    let all = c.in_ok-add_placed.ensures.ok inside.dicts (rows_of c.args.self.now) c.args.batch.now standing added in
    let none = c.in_ok-admit.ensures.refused in
    let may = may_lie c.args.self.now c.args.batch.now c.args.limit c.requires.valid c.requires.fit few c.requires.limit none in
    let is = grown_image_is c.args.self.now inside.schema inside.dicts inside.cells.0 c.add_placed.new.cells.0 inside.rest.0 c.add_placed.new.rest.0 c.args.batch.now c.self.view_is all in
    grown_valid c.rows_added_are_kept.ensures c.args.self.now (image_of inside.schema inside.dicts c.add_placed.new.cells.0 c.add_placed.new.rest.0) c.args.batch.now c.requires.valid may is

pub returns-clause-rows : goal.returns-clause-rows
returns-clause-rows g c =
    let inside = c.self.inside in
    let few = c.in_ok-admit.ensures.few in
    let standing = standing_placed c.standing_rows_keep_their_places.ensures c.args.self.now inside.schema inside.dicts inside.cells.0 inside.rest.0 inside.rows c.requires.valid c.self.view_is c.self.invariant in
    let added = placed_apart inside.dicts c.as_slice.result.now c.args.batch.now c.as_slice-2.result.now c.in_ok-placed.placed.cells.0 c.in_ok-placed.placed.rest.0 c.as_slice.ensures c.as_slice-2.ensures c.in_ok-placed.ensures in
    let all = c.in_ok-add_placed.ensures.ok inside.dicts (rows_of c.args.self.now) c.args.batch.now standing added in
    let none = c.in_ok-admit.ensures.refused in
    let may = may_lie c.args.self.now c.args.batch.now c.args.limit c.requires.valid c.requires.fit few c.requires.limit none in
    let is = grown_image_is c.args.self.now inside.schema inside.dicts inside.cells.0 c.add_placed.new.cells.0 inside.rest.0 c.add_placed.new.rest.0 c.args.batch.now c.self.view_is all in
    grown_rows c.rows_added_are_kept.ensures c.args.self.now (image_of inside.schema inside.dicts c.add_placed.new.cells.0 c.add_placed.new.rest.0) c.args.batch.now c.requires.valid may is
