use Rattle.std.proofs.Common.{◌≡◌, is_some}
use Rattle.blink_run.specs.Ends.{stream_view}
use Rattle.blink_run.specs.Request.{asked_of}
use Rattle.blink_run.specs.declared.top_call.status.Status.TheVariants.{StoreFault}
use Rattle.blink_run.specs.declared.arguments.Request.TheVariants.{Count}
use Rattle.blink_run.specs.Program.{nothing_known, to_demo}
use Rattle.blink_run.proofs.EndLemmas.{files_in, no_store_fault}
use Rattle.blink_run.proofs.StoreAskedLemmas.{not_asked}
use Rattle.blink_run.proofs.top_call.answer.Goals as goal

pub returns-in-Count-clause-ends : goal.returns-in-Count-clause-ends
returns-in-Count-clause-ends g c files are = rw c.in-Count.is (c.answer_count.ensures.ends (is_some (g.S.Store.files c.args.store.now)) files)

pub returns-in-Count-clause-store : goal.returns-in-Count-clause-store
returns-in-Count-clause-store g c =
    let told_files = g.S.Store.files c.args.store.now in
    not_asked g.S.Store.files g.S.Store.faults g.S.Store.never_fails (c.answer_count.result ≡ StoreFault) c.args.store.now (λ e. no_store_fault (asked_of (Count c.in-Count.bounds)) tt (is_some told_files) (files_in told_files) c.args.input.now (stream_view g.W.Sink.given g.W.Sink.faults c.args.output.now) (stream_view g.W.Sink.given g.W.Sink.faults c.answer_count.new.output) c.answer_count.result e (c.answer_count.ensures.ends (is_some told_files) (files_in told_files)))

pub returns-in-Demo-clause-ends : goal.returns-in-Demo-clause-ends
returns-in-Demo-clause-ends g c files are = rw c.in-Demo.is (c.answer_demo.ensures.ends (is_some (g.S.Store.files c.args.store.now)) files c.args.input.now)

pub returns-in-Demo-clause-store : goal.returns-in-Demo-clause-store
returns-in-Demo-clause-store g c =
    let told_files = g.S.Store.files c.args.store.now in
    not_asked g.S.Store.files g.S.Store.faults g.S.Store.never_fails (c.answer_demo.result ≡ StoreFault) c.args.store.now (λ e. no_store_fault (to_demo c.in-Demo.seed c.in-Demo.rows) tt (is_some told_files) (files_in told_files) c.args.input.now (stream_view g.W.Sink.given g.W.Sink.faults c.args.output.now) (stream_view g.W.Sink.given g.W.Sink.faults c.answer_demo.new.output) c.answer_demo.result e (c.answer_demo.ensures.ends (is_some told_files) (files_in told_files) c.args.input.now))

pub returns-clause-ends : goal.returns-clause-ends
returns-clause-ends g c files are = rw c.in-Unknown.is (c.answer_usage.ensures.ends (is_some (g.S.Store.files c.args.store.now)) files c.args.input.now)

pub returns-clause-store : goal.returns-clause-store
returns-clause-store g c =
    let told_files = g.S.Store.files c.args.store.now in
    not_asked g.S.Store.files g.S.Store.faults g.S.Store.never_fails (c.answer_usage.result ≡ StoreFault) c.args.store.now (λ e. no_store_fault nothing_known tt (is_some told_files) (files_in told_files) c.args.input.now (stream_view g.W.Sink.given g.W.Sink.faults c.args.output.now) (stream_view g.W.Sink.given g.W.Sink.faults c.answer_usage.new.output) c.answer_usage.result e (c.answer_usage.ensures.ends (is_some told_files) (files_in told_files) c.args.input.now))
