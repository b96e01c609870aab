use Rattle.std.proofs.Common.{is_some, length}
use Rattle.blink_run.specs.PiecesRun.{GivesAll, sink_view}
use Rattle.blink_run.proofs.PiecesRunLemmas.{never_first, passed_answered, step_answered, step_cut, too_small}
use Rattle.blink_run.proofs.PieceOutputLemmas.{stopped_first}
use Rattle.blink_run.proofs.script.pieces.answer_piece.Goals as goal

pub returns-in-Ok-None-clause-answered : goal.returns-in-Ok-None-clause-answered
returns-in-Ok-None-clause-answered g c limits state stands =
    let told_files = g.S.Store.files c.args.store.now in
    let sink = sink_view g.W.Sink.given g.W.Sink.faults g.W.Sink.sure_room c.args.output.now in
    let answer = rw c.in-Ok-None.field-0-is at (c.in-Ok-None.ensures.answer limits state stands) in
    passed_answered limits told_files (is_some told_files) state c.args.text.now sink c.answer_by.new.engine answer.0 answer.1

pub returns-in-Err-clause-stopped : goal.returns-in-Err-clause-stopped
returns-in-Err-clause-stopped g c limits state stands =
    let told_files = g.S.Store.files c.args.store.now in
    let sink = sink_view g.W.Sink.given g.W.Sink.faults g.W.Sink.sure_room c.args.output.now in
    stopped_first limits told_files (is_some told_files) state c.args.text.now c.in-Err.why sink c.answer_by.new.engine (c.in-Err.ensures.answer limits state stands)

pub returns-in-Ok-clause-answered : goal.returns-in-Ok-clause-answered
returns-in-Ok-clause-answered g c limits state stands =
    let told_files = g.S.Store.files c.args.store.now in
    let old = sink_view g.W.Sink.given g.W.Sink.faults g.W.Sink.sure_room c.args.output.now in
    let new = sink_view g.W.Sink.given g.W.Sink.faults g.W.Sink.sure_room c.write_all.new.sink in
    let piece = rw c.in-Ok-Some.field-0-is at (c.in-Ok-Some.ensures.answer limits state stands) in
    let wrote : GivesAll old new c.as_slice.result.now = record {
      given = c.in-Ok.ensures.all;
      quiet = c.in-Ok.ensures.quiet;
      sure = λ enough. (c.in-Ok.ensures.sure enough).1;
    } in
    step_answered limits told_files (is_some told_files) state c.args.text.now _ _ old new c.answer_by.new.engine piece (rw c.as_slice.ensures at wrote)

pub returns-clause-stopped : goal.returns-clause-stopped
returns-clause-stopped g c limits state stands =
    let told_files = g.S.Store.files c.args.store.now in
    let old = sink_view g.W.Sink.given g.W.Sink.faults g.W.Sink.sure_room c.args.output.now in
    let new = sink_view g.W.Sink.given g.W.Sink.faults g.W.Sink.sure_room c.write_all.new.sink in
    let piece = rw c.in-Ok-Some.field-0-is at (c.in-Ok-Some.ensures.answer limits state stands) in
    let wrote = c.in-Err-write_all.ensures in
    let part = rw c.as_slice.ensures at wrote.part in
    let full = rw c.as_slice.ensures at (too_small (length c.as_slice.result.now) (g.W.Sink.sure_room c.args.output.now) (λ enough. cc ((wrote.sure enough).0))) in
    step_cut limits told_files (is_some told_files) state c.args.text.now _ _ old new c.answer_by.new.engine piece part wrote.cause.failed wrote.cause.later full

pub returns-in-Ok-None-clause-unasked : goal.returns-in-Ok-None-clause-unasked
returns-in-Ok-None-clause-unasked g c limits state stands never =
    c.answer_by.ensures.unasked state stands.stands_for (never_first limits (is_some (g.S.Store.files c.args.store.now)) state c.args.text.now never)

pub returns-in-Err-clause-unasked : goal.returns-in-Err-clause-unasked
returns-in-Err-clause-unasked g c limits state stands never =
    c.answer_by.ensures.unasked state stands.stands_for (never_first limits (is_some (g.S.Store.files c.args.store.now)) state c.args.text.now never)

pub returns-in-Ok-clause-unasked : goal.returns-in-Ok-clause-unasked
returns-in-Ok-clause-unasked g c limits state stands never =
    c.answer_by.ensures.unasked state stands.stands_for (never_first limits (is_some (g.S.Store.files c.args.store.now)) state c.args.text.now never)

pub returns-clause-unasked : goal.returns-clause-unasked
returns-clause-unasked g c limits state stands never =
    c.answer_by.ensures.unasked state stands.stands_for (never_first limits (is_some (g.S.Store.files c.args.store.now)) state c.args.text.now never)
