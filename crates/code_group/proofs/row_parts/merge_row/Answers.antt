use Rattle.std.proofs.Common.{ap, sym, ◌∙◌, true≢false, arith}
use Rattle.std.specs.Option.{is_some}
use Rattle.late_decode.specs.declared.plan.Measure.TheVariants.{Count}
use Rattle.code_group.specs.CellRow.{picked_by}
use Rattle.code_group.proofs.RowPartLemmas.{part-bounded, part-room, part-step, none-missing, part-end, picks-more, picks-within}
use Rattle.code_group.proofs.row_parts.merge_row.Goals as goal

pub merge_measure-requires-clause-own : goal.merge_measure-requires-clause-own
merge_measure-requires-clause-own g c =
    part-bounded c.args.measures.now c.args.own.now (picked_by c.args.row.now) c.requires.own c.loop-at.own c.loop-at.at c.in-Some.part.now c.loop-at.invariant.parts c.in-Some.ensures.value

pub merge_measure-requires-clause-room : goal.merge_measure-requires-clause-room
merge_measure-requires-clause-room g c =
    part-room c.args.measures.now c.args.own.now (picked_by c.args.row.now) c.requires.own c.loop-at.own c.loop-at.at c.in-Some.part.now c.loop-at.invariant.parts c.in-Some.ensures.value c.requires.room

pub returns-in_err-merge_measure-in-Some-clause-decodes : goal.returns-in_err-merge_measure-in-Some-clause-decodes
returns-in_err-merge_measure-in-Some-clause-decodes g c =
    let had = c.loop-at.invariant.decodes in
    let more = c.merge_measure.ensures.decodes in
    let within = picks-within c.loop-at.at c.args.measures.now Count c.loop-at-test.true in
    omega (arith, had, more, within)

pub unreachable-requires : goal.unreachable-requires
unreachable-requires g c =
    let there = none-missing c.args.measures.now c.args.own.now (picked_by c.args.row.now) c.requires.own c.loop-at.own c.loop-at.at c.loop-at.invariant.parts c.loop-at-test.true in
    let some = c.get_mut.ensures.within.1 there in
    true≢false (sym some ∙ ap is_some c.in-None.is)

pub loop-at-preserved : goal.loop-at-preserved
loop-at-preserved g c =
    let had = c.loop-at.invariant.decodes in
    let more = c.merge_measure.ensures.decodes in
    let step = picks-more c.loop-at.at c.args.measures.now Count c.loop-at-test.true in
    record {
      parts = part-step c.args.measures.now c.args.own.now (picked_by c.args.row.now) c.requires.own c.loop-at.own c.loop-at.at c.in-Some.part.now c.loop-at.invariant.parts c.in-Some.ensures.value Count c.merge_measure.new.own c.loop-at-test.true c.in_ok-merge_measure-in-Some.ensures.part;
      decodes = omega (arith, had, more, step);
    }

pub returns-clause-parts : goal.returns-clause-parts
returns-clause-parts g c =
    part-end c.args.measures.now c.args.own.now (picked_by c.args.row.now) c.requires.own c.loop-at.own c.loop-at.at c.loop-at.invariant.parts (omega arith) (omega arith)
