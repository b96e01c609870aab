-- How a run ends, by what was given.
use Rattle.std.proofs.Common.{◌≡◌, ℕ, inr, [], ◌++◌, refl, ◌∙◌, ap, subst, append-nil, true, false, Bool}
use Rattle.std.specs.Prelude.{Option, Some, None, is_some, if◌then◌else◌}
use Rattle.std.specs.FinMap.{get}
use Rattle.std.specs.Io.KnownBytes.{Consumes, IsAtEnd}
use Rattle.blink_edge.specs.Causes.{Rose}
use Rattle.blink_edge.specs.Files as store
use Rattle.blink_gen.specs.Demo.{demo_script}
use Rattle.star_engine.specs.State.{Files}
use Rattle.report_text.specs.Texts.{Bytes}
use Rattle.blink_run.specs.Program.{Asked, to_run, to_count, to_demo, nothing_known, Told, Tells, demo_store, status_of}
use Rattle.blink_run.specs.Ends.{StreamView, Outside, AreFiles, AsksNothing, ReadsInput, LeavesInput, IsReadWhole, IsRead, Gives, AskedGiven, Ends, IsComplete, IsAnswerOrMemory}
use Rattle.blink_run.specs.Options.{standard_limits}
use Rattle.blink_run.specs.declared.top_call.status.Status.{Status}
use Rattle.blink_run.specs.declared.top_call.status.Status.TheVariants as status

-- the files that a store tells, and none where it tells nothing
abbrev pub files_in : Option store.Files → Files
files_in None name = None
files_in (Some told_files) name = get told_files name

pub are_told : (told_files : Option store.Files) → AreFiles told_files (files_in told_files)
are_told None = tt
are_told (Some told_files) = λ name. refl

-- a demonstration and arguments in no form read nothing
pub nothing_read : (asked : Asked) (source : StreamView) → LeavesInput asked → IsRead asked source source []
nothing_read (to_run limits) source leaves = absurd leaves
nothing_read (to_count column low high) source leaves = absurd leaves
nothing_read (to_demo seed rows) source leaves = (refl, refl)
nothing_read nothing_known source leaves = (refl, refl)

-- what reads the input doesn't leave it
pub reads_or_leaves : (asked : Asked) → ReadsInput asked → LeavesInput asked → ⊥
reads_or_leaves (to_run limits) reads leaves = leaves
reads_or_leaves (to_count column low high) reads leaves = leaves
reads_or_leaves (to_demo seed rows) reads leaves = reads
reads_or_leaves nothing_known reads leaves = reads

-- what leaves the input asks nothing of the store
pub leaves_asks : (asked : Asked) → LeavesInput asked → AsksNothing asked
leaves_asks (to_run limits) leaves = leaves
leaves_asks (to_count column low high) leaves = absurd leaves
leaves_asks (to_demo seed rows) leaves = tt
leaves_asks nothing_known leaves = tt

-- what leaves the input tells the same of every input
pub tells_any : (asked : Asked) → LeavesInput asked → (stay : Bool) (files : Files) (input other : Bytes) (told : Told) → Tells asked stay files input told → Tells asked stay files other told
tells_any (to_run limits) leaves stay files input other told tells = absurd leaves
tells_any (to_count column low high) leaves stay files input other told tells = absurd leaves
tells_any (to_demo seed rows) leaves stay files input other told tells = tells
tells_any nothing_known leaves stay files input other told tells = tells

-- an input that was read whole was read
pub read_whole : (asked : Asked) (old new : StreamView) (input : Bytes) → ReadsInput asked → IsReadWhole old new input → IsRead asked old new input
read_whole (to_run limits) old new input reads whole = whole
read_whole (to_count column low high) old new input reads whole = whole
read_whole (to_demo seed rows) old new input reads whole = absurd reads
read_whole nothing_known old new input reads whole = absurd reads

-- the end, where the input was read
pub ends_by : (asked : Asked) (old new : Outside) (input : Bytes) (files : Files) (answer : Status) → IsRead asked old.source new.source input → AreFiles old.store.files files
    → (answer ≡ status.StoreFault → Rose old.store.faults new.store.faults) → Gives asked (is_some old.store.files) files input old.sink new.sink answer → Ends asked old new answer
ends_by asked old new input files status.Done read are rose gives = (input, files, read, are, gives)
ends_by asked old new input files status.Refused read are rose gives = (input, files, read, are, gives)
ends_by asked old new input files status.Usage read are rose gives = (input, files, read, are, gives)
ends_by asked old new input files status.ReadFault read are rose gives = absurd gives
ends_by asked old new input files status.WriteFault read are rose gives = (input, files, read, are, gives)
ends_by asked old new input files status.Memory read are rose gives = inr (input, files, read, are, gives)
ends_by asked old new input files status.StoreFault read are rose gives = (rose refl, (input, files, read, are, gives))
ends_by asked old new input files status.Long read are rose gives = absurd gives

-- where no script is asked for, no statement asks the store
pub no_store_fault : (asked : Asked) → AsksNothing asked → (stay : Bool) (files : Files) (input : Bytes) (old new : StreamView) (answer : Status) → answer ≡ status.StoreFault → Gives asked stay files input old new answer → ⊥
no_store_fault (to_run limits) nothing stay files input old new answer is gives = absurd nothing
no_store_fault (to_count column low high) nothing stay files input old new answer is gives =
    let P : Status → Type 0 = λ s. Gives (to_count column low high) stay files input old new s in subst P is gives
no_store_fault (to_demo seed rows) nothing stay files input old new answer is gives =
    let P : Status → Type 0 = λ s. Gives (to_demo seed rows) stay files input old new s in subst P is gives
no_store_fault nothing_known nothing stay files input old new answer is gives =
    let P : Status → Type 0 = λ s. Gives nothing_known stay files input old new s in subst P is gives

-- the arguments are in some form
abbrev pub IsInForm : Asked → Type 0
IsInForm (to_run limits) = Unit {0}
IsInForm (to_count column low high) = Unit {0}
IsInForm (to_demo seed rows) = Unit {0}
IsInForm nothing_known = ⊥

-- no script, no count and no demonstration ends with the usage line
pub no_usage : (asked : Asked) (told : Told) → IsInForm asked → status.Usage ≡ status_of asked told → ⊥
no_usage (to_run limits) told reads is = by_case told.refused is
  where
    by_case : (b : Bool) → status.Usage ≡ (if b then status.Refused else status.Done) → ⊥
    by_case true is = cc
    by_case false is = cc
no_usage (to_count column low high) told reads is = by_case told.refused is
  where
    by_case : (b : Bool) → status.Usage ≡ (if b then status.Refused else status.Done) → ⊥
    by_case true is = cc
    by_case false is = cc
no_usage (to_demo seed rows) told reads is = by_case told.refused is
  where
    by_case : (b : Bool) → status.Usage ≡ (if b then status.Refused else status.Done) → ⊥
    by_case true is = cc
    by_case false is = cc
no_usage nothing_known told reads is = absurd reads

-- a script, a count and a demonstration are answered where no count of faults rose
pub finishes : (asked : Asked) (stay : Bool) (files : Files) (input : Bytes) (old new : StreamView) (answer : Status) → IsInForm asked → ¬ (Rose old.faults new.faults)
    → (AskedGiven asked stay files input old new → answer ≡ status.StoreFault → ⊥) → Gives asked stay files input old new answer → IsAnswerOrMemory answer
finishes asked stay files input old new status.Done reads calm still gives = tt
finishes asked stay files input old new status.Refused reads calm still gives = tt
finishes asked stay files input old new status.Usage reads calm still gives = absurd (no_usage asked gives.0 reads gives.3)
finishes asked stay files input old new status.ReadFault reads calm still gives = absurd gives
finishes asked stay files input old new status.WriteFault reads calm still gives = absurd (calm gives.0)
finishes asked stay files input old new status.Memory reads calm still gives = tt
finishes asked stay files input old new status.StoreFault reads calm still gives = absurd (still gives refl)
finishes asked stay files input old new status.Long reads calm still gives = absurd gives

-- arguments in no form end with the usage line where no count of faults rose
pub tells_usage : (stay : Bool) (files : Files) (input : Bytes) (old new : StreamView) (answer : Status) → ¬ (Rose old.faults new.faults) → Gives nothing_known stay files input old new answer → answer ≡ status.Usage
tells_usage stay files input old new status.Done calm gives = gives.3
tells_usage stay files input old new status.Refused calm gives = gives.3
tells_usage stay files input old new status.Usage calm gives = refl
tells_usage stay files input old new status.ReadFault calm gives = absurd gives
tells_usage stay files input old new status.WriteFault calm gives = absurd (calm gives.0)
tells_usage stay files input old new status.Memory calm gives = absurd gives
tells_usage stay files input old new status.StoreFault calm gives = absurd gives
tells_usage stay files input old new status.Long calm gives = absurd gives

-- completeness, by what was given
pub complete_by : (asked : Asked) (old new : Outside) (files : Files) (input : Bytes) (answer : Status) → (answer ≡ status.StoreFault → Rose old.store.faults new.store.faults)
    → Gives asked (is_some old.store.files) files input old.sink new.sink answer → IsComplete asked old new answer
complete_by (to_run limits) old new files input answer rose gives =
    λ there calm still. finishes (to_run limits) (is_some old.store.files) files input old.sink new.sink answer tt calm (λ asked e. still (rose e)) gives
complete_by (to_count column low high) old new files input answer rose gives =
    λ there calm. finishes (to_count column low high) (is_some old.store.files) files input old.sink new.sink answer tt calm (λ asked e. absurd asked) gives
complete_by (to_demo seed rows) old new files input answer rose gives =
    λ calm. finishes (to_demo seed rows) (is_some old.store.files) files input old.sink new.sink answer tt calm (λ asked e. absurd asked) gives
complete_by nothing_known old new files input answer rose gives = λ calm. tells_usage (is_some old.store.files) files input old.sink new.sink answer calm gives

-- what is read whole is all that is told
pub input_is : (old new : Option Bytes) (bytes input : Bytes) → old ≡ Some bytes → Consumes old new input → IsAtEnd new → bytes ≡ input
input_is None new bytes input is all end = cc is
input_is (Some x) None bytes input is all end = absurd all
input_is (Some x) (Some y) bytes input is all end = let whole : x ≡ input = all ∙ ap (λ r. input ++ r) end ∙ append-nil input in cc

-- the end of the demonstration's script over its files is the end of the demonstration
pub demo_gives : (seed rows : ℕ) (stay : Bool) (files : Files) (input : Bytes) (old new : StreamView) (answer : Status) → (answer ≡ status.StoreFault → ⊥)
    → Gives (to_run standard_limits) true (demo_store seed rows) demo_script old new answer → Gives (to_demo seed rows) stay files input old new answer
demo_gives seed rows stay files input old new status.Done calm gives = gives
demo_gives seed rows stay files input old new status.Refused calm gives = gives
demo_gives seed rows stay files input old new status.Usage calm gives = gives
demo_gives seed rows stay files input old new status.ReadFault calm gives = gives
demo_gives seed rows stay files input old new status.WriteFault calm gives = gives
demo_gives seed rows stay files input old new status.Memory calm gives = gives
demo_gives seed rows stay files input old new status.StoreFault calm gives = absurd (calm refl)
demo_gives seed rows stay files input old new status.Long calm gives = gives
