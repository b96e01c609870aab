use Rattle.std.proofs.Common.{Ok, None, Some, ap, sym, ◌∙◌}
use Rattle.std.specs.Option.{is_some}
use Rattle.std.specs.List.{list_all}
use Rattle.cell_layout.proofs.RowCodeLemmas.{classes_in, codes_in, place_here, classes_more, codes_more, some_more, none_here, taken_all, within_more, within_all}
use Rattle.cell_layout.proofs.row_codes.RowCodes.read.Goals as goal

pub returns-in-None-clause-told : goal.returns-in-None-clause-told
returns-in-None-clause-told g c =
    let here = place_here c.args.dicts.now c.args.row.now c.loop-column.column c.requires.full None c.loop-column-test.true c.in-None.ensures.place in
    ap Ok (sym (none_here c.args.dicts.now c.args.row.now c.loop-column.column c.requires.full c.loop-column-test.true here))

pub loop-column-preserved : goal.loop-column-preserved
loop-column-preserved g c =
    let here =
    place_here c.args.dicts.now c.args.row.now c.loop-column.column c.requires.full (Some c.in-Some.place) c.loop-column-test.true c.in-Some.ensures.place in
    record {
      classes = classes_more c.args.dicts.now c.args.row.now c.loop-column.column c.requires.full c.in-Some.place c.loop-column.self.classes.items c.push.new.self.items c.loop-column-test.true here c.loop-column.invariant.classes c.in_ok-push-in-Some.ensures.items;
      codes = codes_more c.args.dicts.now c.args.row.now c.loop-column.column c.requires.full c.in-Some.place c.loop-column.self.codes.items c.push-in-Some.new.self.items c.loop-column-test.true here c.loop-column.invariant.codes c.in_ok-push-in-Some-2.ensures.items;
      within =
          rw (c.in_ok-push-in-Some.ensures.items, c.in_ok-push-in-Some-2.ensures.items)
          (within_more c.args.dicts.now c.loop-column.self.classes.items c.loop-column.self.codes.items c.loop-column.column c.in-Some.place c.loop-column.invariant.within c.loop-column-test.true
          c.in-Some.ensures.within);
      some = some_more c.args.dicts.now c.args.row.now c.loop-column.column c.requires.full c.in-Some.place c.loop-column-test.true here c.loop-column.invariant.some;
    }

pub returns-clause-told : goal.returns-clause-told
returns-clause-told g c = ap Ok (sym c.loop-column.invariant.some ∙ ap (list_all is_some) (taken_all c.args.dicts.now c.args.row.now c.loop-column.column c.requires.full c.loop-column-test.false))

pub returns-clause-classes : goal.returns-clause-classes
returns-clause-classes g c _ = c.loop-column.invariant.classes ∙ ap classes_in (taken_all c.args.dicts.now c.args.row.now c.loop-column.column c.requires.full c.loop-column-test.false)

pub returns-clause-codes : goal.returns-clause-codes
returns-clause-codes g c _ = c.loop-column.invariant.codes ∙ ap codes_in (taken_all c.args.dicts.now c.args.row.now c.loop-column.column c.requires.full c.loop-column-test.false)

pub returns-clause-within : goal.returns-clause-within
returns-clause-within g c _ = within_all c.args.dicts.now c.loop-column.self.classes.items c.loop-column.self.codes.items c.loop-column.column c.loop-column.invariant.within c.loop-column-test.false c.loop-column.auto.column-end
