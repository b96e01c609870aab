use Rattle.std.proofs.Common.{◌≡◌, ◌≤◌, ℕ, List, true, length, refl, sym, subst, ◌∙◌}
use Rattle.blink_base.specs.declared.limits.TheConstants.{LONGEST_INPUT}
use Rattle.blink_gen.specs.Demo.{demo_files, demo_script}
use Rattle.blink_run.specs.Options.{standard_limits}
use Rattle.blink_run.specs.Ends.{Gives, stream_view}
use Rattle.blink_run.specs.Program.{demo_store, to_run}
use Rattle.blink_run.specs.Script.{ScriptRuns, start}
use Rattle.blink_run.specs.PiecesRun.{sink_view}
use Rattle.blink_run.specs.declared.top_call.status.Status.TheVariants.{StoreFault}
use Rattle.blink_run.proofs.DemoLemmas.{script_short, shelf_calm}
use Rattle.blink_run.proofs.EndLemmas.{demo_gives}
use Rattle.blink_run.proofs.PiecesRunLemmas.{all_left}
use Rattle.blink_run.proofs.ScriptOutputLemmas.{first_given}
use Rattle.blink_run.proofs.top_call.demo.answer_demo.Goals as goal

pub returns-in-Err-clause-ends : goal.returns-in-Err-clause-ends
returns-in-Err-clause-ends g c stay files input =
    let of = demo_store c.args.seed c.args.rows in
    let sink = sink_view g.W.Sink.given g.W.Sink.faults g.W.Sink.sure_room c.args.output.now in
    first_given standard_limits true of demo_script sink sink (all_left standard_limits true (start of) _ sink)

pub answer_script-requires-clause-short : goal.answer_script-requires-clause-short
answer_script-requires-clause-short g c = subst (λ (s : List ℕ). length s ≤ LONGEST_INPUT) (sym (c.as_bytes.ensures.value ∙ c.script.ensures)) script_short

pub returns-clause-ends : goal.returns-clause-ends
returns-clause-ends g c stay files input =
    let calm = shelf_calm c.in-Ok.shelf c.answer_script.new.store (demo_files c.args.seed c.args.rows) (c.answer_script.result ≡ StoreFault) c.in-Ok.ensures c.answer_script.ensures.store in
    let sink = stream_view g.W.Sink.given g.W.Sink.faults in
    let gives = subst (λ (s : List ℕ). Gives (to_run standard_limits) true (demo_store c.args.seed c.args.rows) s (sink c.args.output.now) (sink c.answer_script.new.output) c.answer_script.result) (c.as_bytes.ensures.value ∙ c.script.ensures) (c.answer_script.ensures.ends (demo_store c.args.seed c.args.rows) (rw c.in-Ok.ensures (λ name. refl))) in
    demo_gives c.args.seed c.args.rows stay files input (sink c.args.output.now) (sink c.answer_script.new.output) c.answer_script.result calm gives

pub returns-clause-sure : goal.returns-clause-sure
returns-clause-sure g c outcomes runs enough =
    c.answer_script.ensures.sure (demo_store c.args.seed c.args.rows) outcomes (refl, rw c.in-Ok.ensures (λ name. refl)) (subst (λ (s : List ℕ). ScriptRuns standard_limits true (demo_store c.args.seed c.args.rows) s outcomes) (sym (c.as_bytes.ensures.value ∙ c.script.ensures)) runs) enough
