-- What is given of a script, by how its pieces were answered.
use Rattle.std.proofs.Common.{◌≡◌, ◌≢◌, ◌∙◌, ◌≤◌, Bool, true, false, List, [], ◌∷◌, ◌++◌, length, refl, ap, subst, append-nil, arith, length-append}
use Rattle.std.specs.Prelude.{if◌then◌else◌, Option, Result, Ok, Err, IfOk, IfErr}
use Rattle.std.specs.List.{concat}
use Rattle.blink_base.specs.declared.limits.Limits.{Limits}
use Rattle.blink_edge.specs.Files as store
use Rattle.star_lex.specs.Pieces.{piece_texts}
use Rattle.star_sql.specs.ParseResult.{SpelledOnce}
use Rattle.star_engine.specs.declared.engine.Engine.{Engine}
use Rattle.star_engine.specs.State.{Files, State}
use Rattle.star_engine.specs.Step.{Outcome}
use Rattle.report_text.specs.Texts.{Bytes}
use Rattle.blink_run.specs.Script.{Runs, ScriptRuns, Begins, start, outputs_of}
use Rattle.blink_run.specs.PiecesRun.{SinkView, Stands, AreRun, AreLeft, AreCut, AreAsking, AreAnswered, AreStopped, end_of}
use Rattle.blink_run.specs.Program.{to_run, told_script}
use Rattle.blink_run.specs.Ends.{StreamView, AllGiven, Gives, PartGiven, FirstGiven, AskedGiven}
use Rattle.blink_run.specs.StatementOutput.{IsStoreFault}
use Rattle.blink_run.specs.declared.output.Stop.{Stop}
use Rattle.blink_run.specs.declared.output.Stop.TheVariants as stop
use Rattle.blink_run.specs.declared.top_call.status.Status.{Status}
use Rattle.blink_run.specs.declared.top_call.status.Status.TheVariants as status
use Rattle.blink_run.proofs.PiecesRunLemmas.{printed-append}
use Rattle.blink_run.proofs.OutcomeLemmas.{goes_on}

-- what a sink shows
abbrev pub view_by : SinkView → StreamView
view_by x = record { bytes = x.bytes; faults = x.faults }

-- all pieces were answered
pub all_given : (limits : Limits) (stay : Bool) (files : Files) (script : Bytes) (old new : SinkView) (refused : Bool)
    → AreRun limits stay (start files) (piece_texts script) old new refused
    → AllGiven (to_run limits) stay files script (view_by old) (view_by new) (if refused then status.Refused else status.Done)
all_given limits stay files script old new refused p =
    (told_script p.outcomes, (p.outcomes, p.runs, refl), p.given.given, ap (λ (b : Bool). if b then status.Refused else status.Done) p.any)

-- some first pieces were answered
pub first_given : (limits : Limits) (stay : Bool) (files : Files) (script : Bytes) (old new : SinkView)
    → AreLeft limits stay (start files) (piece_texts script) old new → FirstGiven (to_run limits) stay files script (view_by old) (view_by new)
first_given limits stay files script old new p = (p.outcomes, p.begins, p.given.given)

-- an output was cut
pub part_given : (limits : Limits) (stay : Bool) (files : Files) (script : Bytes) (old new : SinkView)
    → AreCut limits stay (start files) (piece_texts script) old new → PartGiven (to_run limits) stay files script (view_by old) (view_by new)
part_given limits stay files script old new p = (p.outcomes, p.next, p.begins, (p.part, p.within, p.given))

-- the next statement asks the store
pub asked_given : (limits : Limits) (stay : Bool) (files : Files) (script : Bytes) (old new : SinkView)
    → AreAsking limits stay (start files) (piece_texts script) old new → AskedGiven (to_run limits) stay files script (view_by old) (view_by new)
asked_given limits stay files script old new p = (p.outcomes, p.asks, p.given.given)

-- what some first pieces print is no longer than what all print
pub length_begun : SpelledOnce → (limits : Limits) (state : State) (texts : List Bytes) (x all : List Outcome)
    → Begins limits true state texts x → Runs limits true state texts all → length (concat (outputs_of x)) ≤ length (concat (outputs_of all))
length_begun once limits state texts x all p q =
    let on = goes_on once limits state p.done p.left x all p.runs (subst (λ (ts : List Bytes). Runs limits true state ts all) p.parts q) in
    let rest = on.rest in
    let printed = ap (λ (os : List Outcome). concat (outputs_of os)) on.are ∙ printed-append x rest in
    let long = ap length printed ∙ length-append (concat (outputs_of x)) (concat (outputs_of rest)) in
    omega arith

-- there was no room where an output was cut
pub cut_sure : SpelledOnce → (limits : Limits) (stay : Bool) (state : State) (texts : List Bytes) (old new : SinkView) (all : List Outcome) → stay ≡ true
    → AreCut limits stay state texts old new → Runs limits stay state texts all → length (concat (outputs_of all)) ≤ old.room → ⊥
cut_sure once limits true state texts old new all e p q enough =
    let x = p.outcomes in
    let shorter = length_begun once limits state texts (x ++ p.next ∷ []) all p.begins q in
    let printed = ap length (printed-append x (p.next ∷ [])) ∙ length-append (concat (outputs_of x)) (concat (outputs_of (p.next ∷ []))) in
    let one = ap length (append-nil p.next.printed) in
    let full = p.full in
    omega arith
cut_sure once limits false state texts old new all e p q enough = absurd (cc e)

-- what a script gives, by how the run of its pieces ended
pub record IsScriptEnd (limits : Limits) (stay : Bool) (files : Files) (script : Bytes) (old new : SinkView) (answer : Status) : Type 0 where
  pub gives : Gives (to_run limits) stay files script (view_by old) (view_by new) answer
  pub quiet : answer ≢ status.WriteFault → new.faults ≡ old.faults
  pub later : old.faults ≤ new.faults
  pub sure : stay ≡ true → (outcomes : List Outcome) → ScriptRuns limits stay files script outcomes → length (concat (outputs_of outcomes)) ≤ old.room → new.faults ≡ old.faults

-- without a fault of the sink
quiet_end : (limits : Limits) (stay : Bool) (files : Files) (script : Bytes) (old new : SinkView) (answer : Status)
    → Gives (to_run limits) stay files script (view_by old) (view_by new) answer → new.faults ≡ old.faults → IsScriptEnd limits stay files script old new answer
quiet_end limits stay files script old new answer gives same = record { gives = gives; quiet = λ _. same; later = omega arith; sure = λ _ _ _ _. same }

module _ {M : Type 0} (once : SpelledOnce) (limits : Limits) (told_files : Option store.Files) (stay : Bool) (files : Files) (script : Bytes) (old new : SinkView) (first last : Engine M) (stands : Stands limits told_files (start files) first) where
  pub script_end : (r : Result Bool Stop)
      → IfOk r (λ refused. (l : Limits) (state : State) → Stands l told_files state first → AreAnswered l told_files stay state (piece_texts script) old new refused last)
      → IfErr r (λ why. (l : Limits) (state : State) → Stands l told_files state first → AreStopped l stay state (piece_texts script) old new why)
      → IsScriptEnd limits stay files script old new (end_of r)
  script_end (Ok true) answered stopped =
      let run = (answered limits (start files) stands).run in
      quiet_end limits stay files script old new status.Refused (all_given limits stay files script old new true run) run.given.quiet
  script_end (Ok false) answered stopped =
      let run = (answered limits (start files) stands).run in
      quiet_end limits stay files script old new status.Done (all_given limits stay files script old new false run) run.given.quiet
  script_end (Err stop.Memory) answered stopped =
      let p = stopped limits (start files) stands in
      quiet_end limits stay files script old new status.Memory (first_given limits stay files script old new p) p.given.quiet
  script_end (Err stop.Sink) answered stopped =
      let p = stopped limits (start files) stands in
      record {
        gives = (p.rose, part_given limits stay files script old new p);
        quiet = λ no. absurd (no refl);
        later = p.later;
        sure = λ told outcomes runs enough. absurd (cut_sure once limits stay (start files) (piece_texts script) old new outcomes told p runs enough);
      }
  script_end (Err stop.Store) answered stopped =
      let p = stopped limits (start files) stands in
      quiet_end limits stay files script old new status.StoreFault (asked_given limits stay files script old new p) p.given.quiet

-- a script ends by a fault of the store where the run of its pieces did
pub store_fault_end : (r : Result Bool Stop) → end_of r ≡ status.StoreFault → IsStoreFault r
store_fault_end (Ok true) is = cc is
store_fault_end (Ok false) is = cc is
store_fault_end (Err stop.Memory) is = cc is
store_fault_end (Err stop.Sink) is = cc is
store_fault_end (Err stop.Store) is = tt

pub store_fault_ends : (r : Result Bool Stop) → IsStoreFault r → end_of r ≡ status.StoreFault
store_fault_ends (Ok refused) fault = absurd fault
store_fault_ends (Err stop.Memory) fault = absurd fault
store_fault_ends (Err stop.Sink) fault = absurd fault
store_fault_ends (Err stop.Store) fault = refl
