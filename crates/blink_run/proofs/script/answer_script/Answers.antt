use Rattle.std.proofs.Common.{◌≡◌, ◌∙◌, is_some}
use Rattle.blink_run.specs.Script.{start}
use Rattle.blink_run.specs.PiecesRun.{sink_view}
use Rattle.blink_run.specs.StatementOutput.{IsStoreFault}
use Rattle.blink_run.specs.declared.top_call.status.Status.TheVariants as status
use Rattle.blink_run.proofs.PiecesRunLemmas.{all_left}
use Rattle.blink_run.proofs.EndLemmas.{files_in, are_told}
use Rattle.blink_run.proofs.ScriptOutputLemmas.{first_given, script_end, store_fault_end, store_fault_ends}
use Rattle.blink_run.proofs.StoreAskedLemmas.{not_asked, asked_as}
use Rattle.blink_run.proofs.EngineStartLemmas.{at_start}
use Rattle.blink_run.proofs.PieceSpanLemmas.{pieces_within}
use Rattle.blink_run.proofs.script.answer_script.Goals as goal

pub returns-in-Err-clause-ends : goal.returns-in-Err-clause-ends
returns-in-Err-clause-ends g c files are =
    let told_files = g.S.Store.files c.args.store.now in
    let sink = sink_view g.W.Sink.given g.W.Sink.faults g.W.Sink.sure_room c.args.output.now in
    first_given c.args.limits (is_some told_files) files c.args.script.now sink sink (all_left c.args.limits (is_some told_files) (start files) _ sink)

pub returns-in-Err-clause-store : goal.returns-in-Err-clause-store
returns-in-Err-clause-store g c = not_asked g.S.Store.files g.S.Store.faults g.S.Store.never_fails (status.Memory ≡ status.StoreFault) c.args.store.now (λ is. cc is)

pub answer_pieces-answered-requires-clause-within : goal.answer_pieces-answered-requires-clause-within
answer_pieces-answered-requires-clause-within g c = rw (c.as_slice.ensures ∙ c.in-Ok.ensures) (pieces_within c.args.script.now)

pub returns-clause-ends : goal.returns-clause-ends
returns-clause-ends g c files are =
    let told_files = g.S.Store.files c.args.store.now in
    let stands = at_start c.args.limits told_files files c.new-engine.result c.new-engine.ensures.tables c.new-engine.ensures.limits are in
    let answered = rw (c.as_slice.ensures ∙ c.in-Ok.ensures) at c.answer_pieces-answered.ensures.answered in
    let stopped = rw (c.as_slice.ensures ∙ c.in-Ok.ensures) at c.answer_pieces-answered.ensures.stopped in
    rw c.end_of.ensures (script_end c.one_spelling.ensures c.args.limits told_files (is_some told_files) files c.args.script.now _ _ c.new-engine.result c.answer_pieces-answered.new.engine stands c.answer_pieces-answered.result answered stopped).gives

pub returns-clause-quiet : goal.returns-clause-quiet
returns-clause-quiet g c =
    let told_files = g.S.Store.files c.args.store.now in
    let stands = at_start c.args.limits told_files (files_in told_files) c.new-engine.result c.new-engine.ensures.tables c.new-engine.ensures.limits (are_told told_files) in
    let answered = rw (c.as_slice.ensures ∙ c.in-Ok.ensures) at c.answer_pieces-answered.ensures.answered in
    let stopped = rw (c.as_slice.ensures ∙ c.in-Ok.ensures) at c.answer_pieces-answered.ensures.stopped in
    rw c.end_of.ensures (script_end c.one_spelling.ensures c.args.limits told_files (is_some told_files) (files_in told_files) c.args.script.now _ _ c.new-engine.result c.answer_pieces-answered.new.engine stands c.answer_pieces-answered.result answered stopped).quiet

pub returns-clause-later : goal.returns-clause-later
returns-clause-later g c =
    let told_files = g.S.Store.files c.args.store.now in
    let stands = at_start c.args.limits told_files (files_in told_files) c.new-engine.result c.new-engine.ensures.tables c.new-engine.ensures.limits (are_told told_files) in
    let answered = rw (c.as_slice.ensures ∙ c.in-Ok.ensures) at c.answer_pieces-answered.ensures.answered in
    let stopped = rw (c.as_slice.ensures ∙ c.in-Ok.ensures) at c.answer_pieces-answered.ensures.stopped in
    (script_end c.one_spelling.ensures c.args.limits told_files (is_some told_files) (files_in told_files) c.args.script.now _ _ c.new-engine.result c.answer_pieces-answered.new.engine stands c.answer_pieces-answered.result answered stopped).later

pub returns-clause-sure : goal.returns-clause-sure
returns-clause-sure g c files outcomes known runs enough =
    let told_files = g.S.Store.files c.args.store.now in
    let stands = at_start c.args.limits told_files files c.new-engine.result c.new-engine.ensures.tables c.new-engine.ensures.limits known.1 in
    let answered = rw (c.as_slice.ensures ∙ c.in-Ok.ensures) at c.answer_pieces-answered.ensures.answered in
    let stopped = rw (c.as_slice.ensures ∙ c.in-Ok.ensures) at c.answer_pieces-answered.ensures.stopped in
    (script_end c.one_spelling.ensures c.args.limits told_files (is_some told_files) files c.args.script.now _ _ c.new-engine.result c.answer_pieces-answered.new.engine stands c.answer_pieces-answered.result answered stopped).sure known.0 outcomes runs enough

pub returns-clause-store : goal.returns-clause-store
returns-clause-store g c =
    let r = c.answer_pieces-answered.result in
    rw c.end_of.ensures (asked_as g.S.Store.files g.S.Store.faults g.S.Store.never_fails (IsStoreFault r) _ c.args.store.now c.answer_pieces-answered.new.store
    (store_fault_end r) (λ no fault. no (store_fault_ends r fault)) c.answer_pieces-answered.ensures.store)

pub returns-clause-unasked : goal.returns-clause-unasked
returns-clause-unasked g c files are never =
    let told_files = g.S.Store.files c.args.store.now in
    let stands = at_start c.args.limits told_files files c.new-engine.result c.new-engine.ensures.tables c.new-engine.ensures.limits are in
    c.answer_pieces-answered.ensures.unasked c.args.limits (start files) stands (rw (c.as_slice.ensures ∙ c.in-Ok.ensures) never)
