-- How a run ends. Source: this project's own.
use Rattle.std.specs.Prelude.{◌≡◌, ◌≢◌, ◌<◌, ◌≤◌, ◌+◌, ◌⊎◌, ℕ, Bool, true, is_some, List, [], ◌∷◌, ◌++◌, length, take, Option, Some, None}
use Rattle.std.specs.List.{concat}
use Rattle.std.specs.FinMap.{get}
use Rattle.std.specs.Io.KnownBytes.{Appends, Consumes, IsAtEnd, Keeps}
use Rattle.blink_edge.specs.Causes.{Rose}
use Rattle.blink_edge.specs.Files as store
use Rattle.blink_gen.specs.Demo.{demo_script}
use Rattle.report_text.specs.Texts.{Bytes, usage_bytes}
use Rattle.blink_base.specs.declared.limits.TheConstants.{LONGEST_INPUT}
use Rattle.star_engine.specs.State.{Files}
use Rattle.star_engine.specs.Step.{Outcome}
use Rattle.blink_run.specs.Options.{standard_limits}
use Rattle.blink_run.specs.Script.{ScriptBegins, ScriptAsks, ScriptNeverAsks, outputs_of}
use Rattle.blink_run.specs.Program.{Asked, to_run, to_count, to_demo, nothing_known, Told, Tells, count_told, demo_store, status_of}
use Rattle.blink_run.specs.declared.top_call.status.Status.{Status}
use Rattle.blink_run.specs.declared.top_call.status.Status.TheVariants as status

-- what a source or a sink shows: its bytes, where it tells them, and its count of faults
pub record StreamView : Type 0 where
  pub bytes : Option Bytes
  pub faults : ℕ

-- what a store shows: its files, where it tells them, and its count of faults
pub record StoreView : Type 0 where
  pub files : Option store.Files
  pub faults : ℕ

-- what the source, the sink and the store of a run show
pub record Outside : Type 0 where
  pub source : StreamView
  pub sink : StreamView
  pub store : StoreView

-- the view of a source or a sink
abbrev pub stream_view : {X : Type 0} → (X → Option Bytes) → (X → ℕ) → X → StreamView
stream_view bytes faults object = record { bytes = bytes object; faults = faults object }

-- the view of a store
abbrev pub store_view : {X : Type 0} → (X → Option store.Files) → (X → ℕ) → X → StoreView
store_view files faults object = record { files = files object; faults = faults object }

-- the three together
abbrev pub outside : StreamView → StreamView → StoreView → Outside
outside source sink store = record { source = source; sink = sink; store = store }

-- these are the files of a store, where it tells them
abbrev pub AreFiles : Option store.Files → Files → Type 0
AreFiles None files = Unit {0}
AreFiles (Some told_files) files = (name : Bytes) → files name ≡ get told_files name

-- these are the files that a store tells, where a script is asked for; nothing else asks the store, and a demonstration has files of its own
abbrev pub AreKnown : Asked → Option store.Files → Files → Type 0
AreKnown (to_run limits) told_files files = (is_some told_files ≡ true) × AreFiles told_files files
AreKnown (to_count column low high) told_files files = AreFiles told_files files
AreKnown (to_demo seed rows) told_files files = Unit {0}
AreKnown nothing_known told_files files = AreFiles told_files files

-- the arguments ask for no script over the store, so no statement asks it
abbrev pub AsksNothing : Asked → Type 0
AsksNothing (to_run limits) = ⊥
AsksNothing (to_count column low high) = Unit {0}
AsksNothing (to_demo seed rows) = Unit {0}
AsksNothing nothing_known = Unit {0}

-- a store that may have been asked keeps the files that it tells; its count of faults rose where its fault is the answer, stays otherwise and where no call fails, and never falls
pub record IsAsked {S : Type 0} (files : S → Option store.Files) (faults : S → ℕ) (never_fails : S → Type 0) (failed : Type 0) (old new : S) : Type 0 where
  pub kept : files new ≡ files old
  pub rose : failed → Rose (faults old) (faults new)
  pub quiet : ¬ failed → faults new ≡ faults old
  pub later : faults old ≤ faults new
  pub sure : never_fails old → never_fails new × (faults new ≡ faults old)

-- no statement asks the store; only a script has statements that may
abbrev pub NeverAsked : Asked → Bool → Files → Bytes → Type 0
NeverAsked (to_run limits) stay files input = ScriptNeverAsks limits stay files input
NeverAsked (to_count column low high) stay files input = Unit {0}
NeverAsked (to_demo seed rows) stay files input = Unit {0}
NeverAsked nothing_known stay files input = Unit {0}

-- the arguments are in a form that reads the input
abbrev pub ReadsInput : Asked → Type 0
ReadsInput (to_run limits) = Unit {0}
ReadsInput (to_count column low high) = Unit {0}
ReadsInput (to_demo seed rows) = ⊥
ReadsInput nothing_known = ⊥

-- the arguments ask for a demonstration or are in no form, so the input is left as it was
abbrev pub LeavesInput : Asked → Type 0
LeavesInput (to_run limits) = ⊥
LeavesInput (to_count column low high) = ⊥
LeavesInput (to_demo seed rows) = Unit {0}
LeavesInput nothing_known = Unit {0}

-- the source was read to its end
abbrev pub IsReadWhole : StreamView → StreamView → Bytes → Type 0
IsReadWhole old new input = Consumes old.bytes new.bytes input × IsAtEnd new.bytes × (length input ≤ LONGEST_INPUT)

-- this input was read: a script and a count read the source to its end, and a demonstration and arguments in no form leave it as it was
abbrev pub IsRead : Asked → StreamView → StreamView → Bytes → Type 0
IsRead (to_run limits) old new input = IsReadWhole old new input
IsRead (to_count column low high) old new input = IsReadWhole old new input
IsRead (to_demo seed rows) old new input = (input ≡ []) × (new ≡ old)
IsRead nothing_known old new input = (input ≡ []) × (new ≡ old)

-- at most so many bytes were taken
abbrev pub TakesAtMost : ℕ → StreamView → StreamView → Type 0
TakesAtMost most old new = (taken : Bytes) × Consumes old.bytes new.bytes taken × (length taken ≤ most)

-- all that is told was given, and the status is its
abbrev pub AllGiven : Asked → Bool → Files → Bytes → StreamView → StreamView → Status → Type 0
AllGiven asked stay files input old new answer = (told : Told) × Tells asked stay files input told × Appends old.bytes new.bytes told.printed × (answer ≡ status_of asked told)

-- an output was given up to a proper prefix of it, behind what was given before
abbrev pub GivesPart : StreamView → StreamView → Bytes → Bytes → Type 0
GivesPart old new before output = (k : ℕ) × (k < length output) × Appends old.bytes new.bytes (before ++ take k output)

-- the outputs of some first statements were given, and a proper prefix of the next one's; a count and arguments in no form have one output
abbrev pub PartGiven : Asked → Bool → Files → Bytes → StreamView → StreamView → Type 0
PartGiven (to_run limits) stay files input old new = (outcomes : List Outcome) × (next : Outcome)
    × ScriptBegins limits stay files input (outcomes ++ next ∷ []) × GivesPart old new (concat (outputs_of outcomes)) next.printed
PartGiven (to_count column low high) stay files input old new = GivesPart old new [] (count_told column low high input).printed
PartGiven (to_demo seed rows) stay files input old new = (outcomes : List Outcome) × (next : Outcome)
    × ScriptBegins standard_limits true (demo_store seed rows) demo_script (outcomes ++ next ∷ []) × GivesPart old new (concat (outputs_of outcomes)) next.printed
PartGiven nothing_known stay files input old new = GivesPart old new [] usage_bytes

-- the outputs of some first statements were given whole; a count gave nothing
abbrev pub FirstGiven : Asked → Bool → Files → Bytes → StreamView → StreamView → Type 0
FirstGiven (to_run limits) stay files input old new = (outcomes : List Outcome)
    × ScriptBegins limits stay files input outcomes × Appends old.bytes new.bytes (concat (outputs_of outcomes))
FirstGiven (to_count column low high) stay files input old new = Keeps old.bytes new.bytes
FirstGiven (to_demo seed rows) stay files input old new = (outcomes : List Outcome)
    × ScriptBegins standard_limits true (demo_store seed rows) demo_script outcomes × Appends old.bytes new.bytes (concat (outputs_of outcomes))
FirstGiven nothing_known stay files input old new = ⊥

-- the outputs of some first statements were given whole, and the next statement asks the store; only a script has statements that may
abbrev pub AskedGiven : Asked → Bool → Files → Bytes → StreamView → StreamView → Type 0
AskedGiven (to_run limits) stay files input old new = (outcomes : List Outcome)
    × ScriptAsks limits stay files input outcomes × Appends old.bytes new.bytes (concat (outputs_of outcomes))
AskedGiven (to_count column low high) stay files input old new = ⊥
AskedGiven (to_demo seed rows) stay files input old new = ⊥
AskedGiven nothing_known stay files input old new = ⊥

-- what was given where the input was read, and the run then ended with a status
abbrev pub Gives : Asked → Bool → Files → Bytes → StreamView → StreamView → Status → Type 0
Gives asked stay files input old new status.Done = AllGiven asked stay files input old new status.Done
Gives asked stay files input old new status.Refused = AllGiven asked stay files input old new status.Refused
Gives asked stay files input old new status.Usage = AllGiven asked stay files input old new status.Usage
Gives asked stay files input old new status.ReadFault = ⊥
Gives asked stay files input old new status.WriteFault = Rose old.faults new.faults × PartGiven asked stay files input old new
Gives asked stay files input old new status.Memory = FirstGiven asked stay files input old new
Gives asked stay files input old new status.StoreFault = AskedGiven asked stay files input old new
Gives asked stay files input old new status.Long = ⊥

-- the input was read, the files are the store's, and this was given
abbrev pub IsAnswered : Asked → Outside → Outside → Status → Type 0
IsAnswered asked old new answer = (input : Bytes) × (files : Files) × IsRead asked old.source new.source input
    × AreFiles old.store.files files × Gives asked (is_some old.store.files) files input old.sink new.sink answer

-- nothing was given, and at most so many bytes were taken
abbrev pub NothingGiven : Asked → ℕ → Outside → Outside → Type 0
NothingGiven asked most old new = ReadsInput asked × Keeps old.sink.bytes new.sink.bytes × TakesAtMost most old.source new.source

-- what holds where a run ends with a status
abbrev pub Ends : Asked → Outside → Outside → Status → Type 0
Ends asked old new status.Done = IsAnswered asked old new status.Done
Ends asked old new status.Refused = IsAnswered asked old new status.Refused
Ends asked old new status.Usage = IsAnswered asked old new status.Usage
Ends asked old new status.ReadFault = Rose old.source.faults new.source.faults × NothingGiven asked LONGEST_INPUT old new
Ends asked old new status.WriteFault = IsAnswered asked old new status.WriteFault
Ends asked old new status.Memory = NothingGiven asked (LONGEST_INPUT + 1) old new ⊎ IsAnswered asked old new status.Memory
Ends asked old new status.StoreFault = Rose old.store.faults new.store.faults × IsAnswered asked old new status.StoreFault
Ends asked old new status.Long = ReadsInput asked × Keeps old.sink.bytes new.sink.bytes
    × (taken : Bytes) × Consumes old.source.bytes new.source.bytes taken × (length taken ≡ LONGEST_INPUT + 1)

-- the first fault ends the run: no count of faults rose but that of the fault that is the status
pub record EndsAtFault (old new : Outside) (answer : Status) : Type 0 where
  pub source : answer ≢ status.ReadFault → new.source.faults ≡ old.source.faults
  pub sink : answer ≢ status.WriteFault → new.sink.faults ≡ old.sink.faults
  pub store : answer ≢ status.StoreFault → new.store.faults ≡ old.store.faults

-- a run came to its end, or found no memory
abbrev pub IsAnswerOrMemory : Status → Type 0
IsAnswerOrMemory status.Done = Unit {0}
IsAnswerOrMemory status.Refused = Unit {0}
IsAnswerOrMemory status.Usage = ⊥
IsAnswerOrMemory status.ReadFault = ⊥
IsAnswerOrMemory status.WriteFault = ⊥
IsAnswerOrMemory status.Memory = Unit {0}
IsAnswerOrMemory status.StoreFault = ⊥
IsAnswerOrMemory status.Long = ⊥

-- the source tells an input that isn't too long, and its count of faults did not rise
abbrev pub IsInputThere : StreamView → StreamView → Type 0
IsInputThere old new = (input : Bytes) × (old.bytes ≡ Some input) × (length input ≤ LONGEST_INPUT) × ¬ (Rose old.faults new.faults)

-- where no count of faults rose and the input isn't too long, a run is answered, but for want of memory; arguments in no form need none
abbrev pub IsComplete : Asked → Outside → Outside → Status → Type 0
IsComplete (to_run limits) old new answer =
    IsInputThere old.source new.source → ¬ (Rose old.sink.faults new.sink.faults) → ¬ (Rose old.store.faults new.store.faults) → IsAnswerOrMemory answer
IsComplete (to_count column low high) old new answer = IsInputThere old.source new.source → ¬ (Rose old.sink.faults new.sink.faults) → IsAnswerOrMemory answer
IsComplete (to_demo seed rows) old new answer = ¬ (Rose old.sink.faults new.sink.faults) → IsAnswerOrMemory answer
IsComplete nothing_known old new answer = ¬ (Rose old.sink.faults new.sink.faults) → answer ≡ status.Usage
