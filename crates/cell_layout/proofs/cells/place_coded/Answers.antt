use Rattle.std.proofs.Common.{◌≤◌, ◌<◌, [], ◌++◌, length, get_or, sym, subst, vec_capacity, arith}
use Rattle.std.proofs.lemmas.List.{length-append, take_all, get_or_default}
use Rattle.cell_layout.specs.RowPartition.{ArePlaced}
use Rattle.cell_layout.proofs.RowPartitionLemmas.{none_placed, known_next}
use Rattle.cell_layout.proofs.cells.place_coded.Goals as goal

pub loop-number-init : goal.loop-number-init
loop-number-init g c = record {
  placed = rw (c.new.ensures.list, c.new-2.ensures.list) (none_placed c.args.dicts.now);
  class_room = c.in_ok-codes.ensures.classes;
  code_room = c.in_ok-codes.ensures.codes;
}

pub take-requires-clause-row : goal.take-requires-clause-row
take-requires-clause-row g c =
    let rows = c.args.held.now ++ c.args.batch.now in
    let lt : c.loop-number.number < length rows = omega (arith, c.loop-number-test.true, length-append c.args.held.now c.args.batch.now) in
    (get_or rows c.loop-number.number [], c.requires.full c.loop-number.number [] lt, c.requires.places c.loop-number.number [] lt)

pub loop-number-preserved : goal.loop-number-preserved
loop-number-preserved g c =
    let rows = c.args.held.now ++ c.args.batch.now in
    let n = c.loop-number.number in
    let row = get_or rows n [] in
    let lt : n < length rows = omega (arith, c.loop-number-test.true, length-append c.args.held.now c.args.batch.now) in
    record {
      placed = known_next c.args.dicts.now rows n row c.loop-number.placed.cells.0 c.put_row.new.cells.0 c.loop-number.placed.rest.0 c.take.new.self.classes.items c.take.new.self.codes.items
          c.loop-number.invariant.placed (get_or_default rows n [] row lt) lt (c.take.ensures.row row (c.requires.full n [] lt) (c.requires.places n [] lt)) c.in_ok-at.ensures;
      class_room = subst (λ v. length c.args.dicts.now ≤ vec_capacity v) (sym c.found.ensures.classes) (omega (arith, c.take.ensures.class_room, c.loop-number.invariant.class_room));
      code_room = subst (λ v. length c.args.dicts.now ≤ vec_capacity v) (sym c.found.ensures.codes) (omega (arith, c.take.ensures.code_room, c.loop-number.invariant.code_room));
    }

pub returns : goal.returns
returns g c =
    let rows = c.args.held.now ++ c.args.batch.now in
    let le : length rows ≤ c.loop-number.number = omega (arith, c.loop-number-test.false, length-append c.args.held.now c.args.batch.now) in
    subst (λ l. ArePlaced c.args.dicts.now l c.loop-number.placed.cells.0 c.loop-number.placed.rest.0) (take_all c.loop-number.number rows le) c.loop-number.invariant.placed
