-- How the pieces of a script go on, one behind the other. Source: this project's own.
use Rattle.std.specs.Prelude.{◌≡◌, ◌<◌, ◌≤◌, ◌+◌, ℕ, Bool, true, false, List, [], ◌∷◌, ◌++◌, length, take, Option, Result, Ok, Err}
use Rattle.std.specs.List.{concat}
use Rattle.std.specs.Io.KnownBytes.{Appends}
use Rattle.blink_base.specs.declared.limits.Limits.{Limits}
use Rattle.blink_edge.specs.Causes.{Rose}
use Rattle.blink_edge.specs.Files as store
use Rattle.report_text.specs.Texts.{Bytes}
use Rattle.star_sql.specs.PieceStatement.{Said, Says, is_passed_over}
use Rattle.star_engine.specs.declared.engine.Engine.{Engine}
use Rattle.star_engine.specs.State.{State}
use Rattle.star_engine.specs.EngineRepr.{IsEngineOf}
use Rattle.star_engine.specs.Step.{Outcome, step}
use Rattle.blink_run.specs.Ends.{AreFiles}
use Rattle.blink_run.specs.Script.{Runs, Begins, Asks, Finds, outputs_of, is_any_refused, left_by}
use Rattle.blink_run.specs.declared.top_call.status.Status.{Status}
use Rattle.blink_run.specs.declared.top_call.status.Status.TheVariants as status
use Rattle.blink_run.specs.declared.output.Stop.{Stop}
use Rattle.blink_run.specs.declared.output.Stop.TheVariants as stop

-- a sink: its bytes, where it tells them, its count of faults, and how many more bytes it is sure to take
pub record SinkView : Type 0 where
  pub bytes : Option Bytes
  pub faults : ℕ
  pub room : ℕ

-- the view of a sink
abbrev pub sink_view : {W : Type 0} → (W → Option Bytes) → (W → ℕ) → (W → ℕ) → W → SinkView
sink_view bytes faults room sink = record { bytes = bytes sink; faults = faults sink; room = room sink }

-- the engine keeps the state's tables under the limits, and the store, where it tells its files, has the state's
pub record Stands {M : Type 0} (limits : Limits) (told_files : Option store.Files) (state : State) (engine : Engine M) : Type 0 where
  pub stands_for : IsEngineOf state.tables engine
  pub under : engine.limits ≡ limits
  pub files : AreFiles told_files state.files

-- a piece is one statement, this is the outcome of its step from what it finds, and its line and whether it is refused
pub record IsStep (limits : Limits) (stay : Bool) (state : State) (text line : Bytes) (refused : Bool) (next : State) : Type 0 where
  pub spoken : is_passed_over text ≡ false
  pub said : Said
  pub says : Says text said
  pub found : State
  pub finds : Finds stay state found
  pub steps : step limits found said ≡ record { state = next; printed = line; refused = refused }

-- these bytes were given without a fault, and no more room was taken than they need
pub record GivesAll (old new : SinkView) (bytes : Bytes) : Type 0 where
  pub given : Appends old.bytes new.bytes bytes
  pub quiet : new.faults ≡ old.faults
  pub sure : length bytes ≤ old.room → old.room ≤ new.room + length bytes

-- pieces were run from a state, all that they print was given, and this says whether one was refused
pub record AreRun (limits : Limits) (stay : Bool) (state : State) (texts : List Bytes) (old new : SinkView) (refused : Bool) : Type 0 where
  pub outcomes : List Outcome
  pub runs : Runs limits stay state texts outcomes
  pub given : GivesAll old new (concat (outputs_of outcomes))
  pub any : refused ≡ is_any_refused outcomes

-- pieces were run, and the engine and the store stand for the state that is left
pub record AreAnswered {M : Type 0} (limits : Limits) (told_files : Option store.Files) (stay : Bool) (state : State) (texts : List Bytes) (old new : SinkView) (refused : Bool) (engine : Engine M) : Type 0 where
  pub run : AreRun limits stay state texts old new refused
  pub stands : Stands limits told_files (left_by state run.outcomes) engine

-- some first pieces were run, and all that they print was given
pub record AreLeft (limits : Limits) (stay : Bool) (state : State) (texts : List Bytes) (old new : SinkView) : Type 0 where
  pub outcomes : List Outcome
  pub begins : Begins limits stay state texts outcomes
  pub given : GivesAll old new (concat (outputs_of outcomes))

-- some first pieces were run, and the last output was given up to a proper prefix; the count of faults rose, and no room was sure for all
pub record AreCut (limits : Limits) (stay : Bool) (state : State) (texts : List Bytes) (old new : SinkView) : Type 0 where
  pub outcomes : List Outcome
  pub next : Outcome
  pub begins : Begins limits stay state texts (outcomes ++ next ∷ [])
  pub part : ℕ
  pub within : part < length next.printed
  pub given : Appends old.bytes new.bytes (concat (outputs_of outcomes) ++ take part next.printed)
  pub rose : Rose old.faults new.faults
  pub later : old.faults ≤ new.faults
  pub full : old.room < length (concat (outputs_of outcomes)) + length next.printed

-- some first pieces were run, all that they print was given, and the next one asks the store
pub record AreAsking (limits : Limits) (stay : Bool) (state : State) (texts : List Bytes) (old new : SinkView) : Type 0 where
  pub outcomes : List Outcome
  pub asks : Asks limits stay state texts outcomes
  pub given : GivesAll old new (concat (outputs_of outcomes))

-- why the run of the pieces stopped
abbrev pub AreStopped : Limits → Bool → State → List Bytes → SinkView → SinkView → Stop → Type 0
AreStopped limits stay state texts old new stop.Memory = AreLeft limits stay state texts old new
AreStopped limits stay state texts old new stop.Sink = AreCut limits stay state texts old new
AreStopped limits stay state texts old new stop.Store = AreAsking limits stay state texts old new

-- the status of a script, by how the run of its pieces ended
abbrev pub end_of : Result Bool Stop → Status
end_of (Ok true) = status.Refused
end_of (Ok false) = status.Done
end_of (Err stop.Memory) = status.Memory
end_of (Err stop.Sink) = status.WriteFault
end_of (Err stop.Store) = status.StoreFault
