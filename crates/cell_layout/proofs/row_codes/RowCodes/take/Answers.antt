use Rattle.std.proofs.Common.{Some, ap, sym, ◌∙◌, arith}
use Rattle.std.specs.Option.{is_some}
use Rattle.std.specs.List.{list_all}
use Rattle.cell_layout.proofs.RowCodeLemmas.{classes_in, codes_in, place_here, classes_more, codes_more, some_more, taken_all, within_more, within_all}
use Rattle.cell_layout.proofs.row_codes.RowCodes.take.Goals as goal

pub known_place-place-requires-clause-row : goal.known_place-place-requires-clause-row
known_place-place-requires-clause-row g c = (c.requires.row.0, c.requires.row.2)

pub push_reserved-requires : goal.push_reserved-requires
push_reserved-requires g c = let at = c.loop-column.invariant in omega (arith, at.class_count, at.class_room, c.clear.ensures.capacity, c.requires.class_room, c.loop-column-test.true)

pub push_reserved-requires-in-loop-column : goal.push_reserved-requires-in-loop-column
push_reserved-requires-in-loop-column g c = let at = c.loop-column.invariant in omega (arith, at.code_count, at.code_room, c.clear-2.ensures.capacity, c.requires.code_room, c.loop-column-test.true)

pub loop-column-preserved : goal.loop-column-preserved
loop-column-preserved g c = record {
  row = λ row full has.
      let before = c.loop-column.invariant.row row full has in
      let lt = c.loop-column-test.true in
      let here = place_here c.args.dicts.now row c.loop-column.column full (Some c.known_place-place.result) lt (λ v. c.known_place-place.ensures.place row v has) in (
        classes_more c.args.dicts.now row c.loop-column.column full c.known_place-place.result c.loop-column.self.classes.items c.push_reserved.new.self.items lt here before.0 c.push_reserved.ensures.items,
        codes_more c.args.dicts.now row c.loop-column.column full c.known_place-place.result c.loop-column.self.codes.items c.push_reserved-in-loop-column.new.self.items lt here before.1 c.push_reserved-in-loop-column.ensures.items,
        some_more c.args.dicts.now row c.loop-column.column full c.known_place-place.result lt here before.2,
      );
  within =
      rw (c.push_reserved.ensures.items, c.push_reserved-in-loop-column.ensures.items)
      (within_more c.args.dicts.now c.loop-column.self.classes.items c.loop-column.self.codes.items c.loop-column.column c.known_place-place.result c.loop-column.invariant.within c.loop-column-test.true
      c.known_place-place.ensures.within);
  class_count = omega (arith, c.push_reserved.ensures.len, c.loop-column.invariant.class_count);
  code_count = omega (arith, c.push_reserved-in-loop-column.ensures.len, c.loop-column.invariant.code_count);
  class_room = c.push_reserved.ensures.capacity ∙ c.loop-column.invariant.class_room;
  code_room = c.push_reserved-in-loop-column.ensures.capacity ∙ c.loop-column.invariant.code_room;
}

pub returns-clause-row : goal.returns-clause-row
returns-clause-row g c = λ row full has.
    let at = c.loop-column.invariant.row row full has in
    let all = taken_all c.args.dicts.now row c.loop-column.column full c.loop-column-test.false in
    record { whole = sym (ap (list_all is_some) all) ∙ at.2; classes = at.0 ∙ ap classes_in all; codes = at.1 ∙ ap codes_in all }

pub returns-clause-within : goal.returns-clause-within
returns-clause-within g c = within_all c.args.dicts.now c.loop-column.self.classes.items c.loop-column.self.codes.items c.loop-column.column c.loop-column.invariant.within c.loop-column-test.false c.loop-column.auto.column-end
