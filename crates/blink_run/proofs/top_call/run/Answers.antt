use Rattle.std.proofs.Common.{◌≡◌, ◌+◌, [], refl, inl, is_some}
use Rattle.std.proofs.KnownBytes.{Keeps-refl}
use Rattle.blink_base.specs.declared.limits.TheConstants.{LONGEST_INPUT}
use Rattle.blink_run.specs.Ends.{NothingGiven, outside, stream_view, store_view}
use Rattle.blink_run.specs.Request.{asked_of}
use Rattle.blink_run.proofs.EndLemmas.{files_in, are_told, nothing_read, reads_or_leaves, read_whole, leaves_asks, tells_any, ends_by, complete_by, input_is}
use Rattle.blink_run.proofs.StoreAskedLemmas.{not_asked}
use Rattle.blink_run.specs.declared.top_call.status.Status.TheVariants.{Long, ReadFault, Memory, StoreFault}
use Rattle.blink_run.proofs.top_call.run.Goals as goal

pub returns-then-not-reads_input-clause-ends : goal.returns-then-not-reads_input-clause-ends
returns-then-not-reads_input-clause-ends g c =
    let told_files = g.S.Store.files c.args.store.now in
    let files = files_in told_files in
    let asked = asked_of c.of_args-request.result in
    let source = stream_view g.R.Source.left g.R.Source.faults c.args.input.now in
    let old = outside source (stream_view g.W.Sink.given g.W.Sink.faults c.args.output.now) (store_view g.S.Store.files g.S.Store.faults c.args.store.now) in
    let new = outside source (stream_view g.W.Sink.given g.W.Sink.faults c.answer.new.output) (store_view g.S.Store.files g.S.Store.faults c.answer.new.store) in
    rw (← c.of_args-request.ensures.asked)
    (ends_by asked old new [] files c.answer.result (nothing_read asked source (c.reads_input.ensures.no c.if-not-reads_input.true)) (are_told told_files) c.answer.ensures.store.rose (c.answer.ensures.ends files (are_told told_files)))

pub returns-then-not-reads_input-clause-complete : goal.returns-then-not-reads_input-clause-complete
returns-then-not-reads_input-clause-complete g c =
    let told_files = g.S.Store.files c.args.store.now in
    let files = files_in told_files in
    let asked = asked_of c.of_args-request.result in
    let source = stream_view g.R.Source.left g.R.Source.faults c.args.input.now in
    let old = outside source (stream_view g.W.Sink.given g.W.Sink.faults c.args.output.now) (store_view g.S.Store.files g.S.Store.faults c.args.store.now) in
    let new = outside source (stream_view g.W.Sink.given g.W.Sink.faults c.answer.new.output) (store_view g.S.Store.files g.S.Store.faults c.answer.new.store) in
    rw (← c.of_args-request.ensures.asked) (complete_by asked old new files [] c.answer.result c.answer.ensures.store.rose (c.answer.ensures.ends files (are_told told_files)))

pub returns-then-not-reads_input-clause-first_fault : goal.returns-then-not-reads_input-clause-first_fault
returns-then-not-reads_input-clause-first_fault g c = record { source = λ _. refl; sink = c.answer.ensures.quiet; store = c.answer.ensures.store.quiet }

pub returns-then-not-reads_input-clause-unasked : goal.returns-then-not-reads_input-clause-unasked
returns-then-not-reads_input-clause-unasked g c bytes files left are never = c.answer.ensures.kept (leaves_asks (asked_of c.of_args-request.result) (c.reads_input.ensures.no c.if-not-reads_input.true))

pub returns-then-not-reads_input-clause-sink_sure : goal.returns-then-not-reads_input-clause-sink_sure
returns-then-not-reads_input-clause-sink_sure g c bytes files told left are tells enough =
    let asked = asked_of c.of_args-request.result in
    let told_files = g.S.Store.files c.args.store.now in
    c.answer.ensures.sure files told (rw (← c.of_args-request.ensures.asked) at are)
    (tells_any asked (c.reads_input.ensures.no c.if-not-reads_input.true) (is_some told_files) files bytes [] told (rw (← c.of_args-request.ensures.asked) at tells)) enough

pub returns-in-Ok-Whole-clause-ends : goal.returns-in-Ok-Whole-clause-ends
returns-in-Ok-Whole-clause-ends g c =
    let told_files = g.S.Store.files c.args.store.now in
    let files = files_in told_files in
    let asked = asked_of c.of_args-request.result in
    let input = c.as_slice.result.now in
    let old = outside (stream_view g.R.Source.left g.R.Source.faults c.args.input.now) (stream_view g.W.Sink.given g.W.Sink.faults c.args.output.now) (store_view g.S.Store.files g.S.Store.faults c.args.store.now) in
    let new = outside (stream_view g.R.Source.left g.R.Source.faults c.read_all.new.source) (stream_view g.W.Sink.given g.W.Sink.faults c.answer-in-Ok-Whole.new.output) (store_view g.S.Store.files g.S.Store.faults c.answer-in-Ok-Whole.new.store) in
    let reads = c.reads_input.ensures.yes c.if-not-reads_input.false in
    let whole = rw (← c.as_slice.ensures.value) at (c.in-Ok-Whole.ensures.whole (rw c.in-Ok-Whole.field-0-is refl)) in
    rw (← c.of_args-request.ensures.asked)
    (ends_by asked old new input files c.answer-in-Ok-Whole.result (read_whole asked old.source new.source input reads whole) (are_told told_files) c.answer-in-Ok-Whole.ensures.store.rose (c.answer-in-Ok-Whole.ensures.ends files (are_told told_files)))

pub returns-in-Ok-Whole-clause-complete : goal.returns-in-Ok-Whole-clause-complete
returns-in-Ok-Whole-clause-complete g c =
    let told_files = g.S.Store.files c.args.store.now in
    let files = files_in told_files in
    let asked = asked_of c.of_args-request.result in
    let old = outside (stream_view g.R.Source.left g.R.Source.faults c.args.input.now) (stream_view g.W.Sink.given g.W.Sink.faults c.args.output.now) (store_view g.S.Store.files g.S.Store.faults c.args.store.now) in
    let new = outside (stream_view g.R.Source.left g.R.Source.faults c.read_all.new.source) (stream_view g.W.Sink.given g.W.Sink.faults c.answer-in-Ok-Whole.new.output) (store_view g.S.Store.files g.S.Store.faults c.answer-in-Ok-Whole.new.store) in
    rw (← c.of_args-request.ensures.asked) (complete_by asked old new files c.as_slice.result.now c.answer-in-Ok-Whole.result c.answer-in-Ok-Whole.ensures.store.rose (c.answer-in-Ok-Whole.ensures.ends files (are_told told_files)))

pub returns-in-Ok-Whole-clause-sink_sure : goal.returns-in-Ok-Whole-clause-sink_sure
returns-in-Ok-Whole-clause-sink_sure g c bytes files told left are tells enough =
    let whole = rw (← c.as_slice.ensures.value) at (c.in-Ok-Whole.ensures.whole (rw c.in-Ok-Whole.field-0-is refl)) in
    let same = input_is (g.R.Source.left c.args.input.now) (g.R.Source.left c.read_all.new.source) bytes c.as_slice.result.now left whole.0 whole.1 in
    c.answer-in-Ok-Whole.ensures.sure files told (rw (← c.of_args-request.ensures.asked) at are) (rw (← c.of_args-request.ensures.asked, same) at tells) enough

pub returns-clause-ends : goal.returns-clause-ends
returns-clause-ends g c =
    let asked = asked_of c.of_args-request.result in
    let store = store_view g.S.Store.files g.S.Store.faults c.args.store.now in
    let sink = stream_view g.W.Sink.given g.W.Sink.faults c.args.output.now in
    let old = outside (stream_view g.R.Source.left g.R.Source.faults c.args.input.now) sink store in
    let new = outside (stream_view g.R.Source.left g.R.Source.faults c.read_all.new.source) sink store in
    let part = c.in-Err-Memory.ensures.part in
    let nothing : NothingGiven asked (LONGEST_INPUT + 1) old new = (c.reads_input.ensures.yes c.if-not-reads_input.false, Keeps-refl _, (part.0, part.1, part.2)) in
    inl (rw (← c.of_args-request.ensures.asked) nothing)

pub returns-in-Ok-Whole-clause-unasked : goal.returns-in-Ok-Whole-clause-unasked
returns-in-Ok-Whole-clause-unasked g c bytes files left are never =
    let whole = rw (← c.as_slice.ensures.value) at (c.in-Ok-Whole.ensures.whole (rw c.in-Ok-Whole.field-0-is refl)) in
    let same = input_is (g.R.Source.left c.args.input.now) (g.R.Source.left c.read_all.new.source) bytes c.as_slice.result.now left whole.0 whole.1 in
    c.answer-in-Ok-Whole.ensures.unasked files are (rw (← c.of_args-request.ensures.asked, same) at never)

pub returns-in-Ok-Whole-clause-first_fault : goal.returns-in-Ok-Whole-clause-first_fault
returns-in-Ok-Whole-clause-first_fault g c = record { source = λ _. c.in-Ok-Whole.ensures.quiet (λ e. cc e); sink = c.answer-in-Ok-Whole.ensures.quiet; store = c.answer-in-Ok-Whole.ensures.store.quiet }

pub returns-in-Ok-Long-clause-first_fault : goal.returns-in-Ok-Long-clause-first_fault
returns-in-Ok-Long-clause-first_fault g c = record { source = λ _. c.in-Ok-Long.ensures.quiet (λ e. cc e); sink = λ _. refl; store = λ _. refl }

pub returns-in-Err-Failed-clause-first_fault : goal.returns-in-Err-Failed-clause-first_fault
returns-in-Err-Failed-clause-first_fault g c = record { source = λ no. absurd (no refl); sink = λ _. refl; store = λ _. refl }

pub returns-clause-first_fault : goal.returns-clause-first_fault
returns-clause-first_fault g c = record { source = λ _. c.in-Err-Memory.ensures.quiet (λ e. cc e); sink = λ _. refl; store = λ _. refl }

pub returns-in-Ok-Long-clause-store : goal.returns-in-Ok-Long-clause-store
returns-in-Ok-Long-clause-store g c = not_asked g.S.Store.files g.S.Store.faults g.S.Store.never_fails (Long ≡ StoreFault) c.args.store.now (λ e. cc e)

pub returns-in-Err-Failed-clause-store : goal.returns-in-Err-Failed-clause-store
returns-in-Err-Failed-clause-store g c = not_asked g.S.Store.files g.S.Store.faults g.S.Store.never_fails (ReadFault ≡ StoreFault) c.args.store.now (λ e. cc e)

pub returns-clause-store : goal.returns-clause-store
returns-clause-store g c = not_asked g.S.Store.files g.S.Store.faults g.S.Store.never_fails (Memory ≡ StoreFault) c.args.store.now (λ e. cc e)

pub returns-in-Ok-Whole-clause-source_kept : goal.returns-in-Ok-Whole-clause-source_kept
returns-in-Ok-Whole-clause-source_kept g c leaves =
    absurd (reads_or_leaves (asked_of c.of_args-request.result) (c.reads_input.ensures.yes c.if-not-reads_input.false) (rw (← c.of_args-request.ensures.asked) at leaves))

pub returns-in-Ok-Long-clause-source_kept : goal.returns-in-Ok-Long-clause-source_kept
returns-in-Ok-Long-clause-source_kept g c leaves =
    absurd (reads_or_leaves (asked_of c.of_args-request.result) (c.reads_input.ensures.yes c.if-not-reads_input.false) (rw (← c.of_args-request.ensures.asked) at leaves))

pub returns-in-Err-Failed-clause-source_kept : goal.returns-in-Err-Failed-clause-source_kept
returns-in-Err-Failed-clause-source_kept g c leaves =
    absurd (reads_or_leaves (asked_of c.of_args-request.result) (c.reads_input.ensures.yes c.if-not-reads_input.false) (rw (← c.of_args-request.ensures.asked) at leaves))

pub returns-clause-source_kept : goal.returns-clause-source_kept
returns-clause-source_kept g c leaves =
    absurd (reads_or_leaves (asked_of c.of_args-request.result) (c.reads_input.ensures.yes c.if-not-reads_input.false) (rw (← c.of_args-request.ensures.asked) at leaves))
