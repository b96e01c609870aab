-- What is fetched of a file, by what the store answers.
use Rattle.std.proofs.Common.{◌≡◌, ◌∙◌, ◌<◌, ℕ, zero, suc, [], ◌∷◌, length, is_some, Option, Some, None, Result, Err, IfSome, refl, sym, ap, arith}
use Rattle.std.specs.Prelude.{Vec}
use Rattle.std.specs.declared.alloc.Global.{Global}
use Rattle.std.specs.FinMap.{get}
use Rattle.std.proofs.lemmas.Bool.{lt-leb}
use Rattle.blink_base.specs.declared.refusal.Refusal.{Refusal}
use Rattle.blink_base.specs.declared.refusal.Refusal.TheVariants as refusal
use Rattle.blink_edge.specs.Files as store
use Rattle.blink_edge.specs.Files.{IsFound}
use Rattle.blink_edge.specs.declared.store.Found.TheVariants.{Whole, Absent, Long}
use Rattle.report_text.specs.Texts.{Bytes}
use Rattle.star_engine.specs.State.{State}
use Rattle.star_engine.specs.Step.{fetched, short_enough}
use Rattle.blink_base.specs.declared.limits.TheConstants.{LONGEST_CSV}
use Rattle.blink_run.specs.Ends.{AreFiles}
use Rattle.blink_run.specs.StatementOutput.{IsFetched, bytes_in}

-- a file that was whole
is_whole : (limit : ℕ) (file : Option Bytes) (bytes : Bytes) → IsFound file limit bytes Whole → file ≡ Some bytes
is_whole limit None bytes is = cc is
is_whole limit (Some file) bytes is = ap Some (sym is.1)

-- a file that was not there
is_absent : (limit : ℕ) (file : Option Bytes) (bytes : Bytes) → IsFound file limit bytes Absent → file ≡ None
is_absent limit None bytes is = refl
is_absent limit (Some file) bytes is = absurd is

-- a file that was too long
is_long : (limit : ℕ) (file : Option Bytes) (bytes : Bytes) → IsFound file limit bytes Long → fetched limit file ≡ Err refusal.FileTooLong
is_long limit None bytes is = cc is
is_long limit (Some file) bytes is = ap (λ b. short_enough b file) (lt-leb (length file) limit is)

-- more bytes than a limit
pub longer : (limit : ℕ) → (bytes : Bytes) × (limit < length bytes)
longer zero = (0 ∷ [], omega arith)
longer (suc limit) = let less = longer limit in let lt = less.1 in (0 ∷ less.0, omega arith)

-- a file of more bytes is too long
longer_long : (limit : ℕ) → fetched limit (Some (longer limit).0) ≡ Err refusal.FileTooLong
longer_long limit = is_long limit (Some (longer limit).0) [] (longer limit).1

-- what a statement finds in a store that tells nothing, where each file is this
abbrev pub with_file : State → Option Bytes → State
with_file state file = record { tables = state.tables; files = λ name. file }

-- a file whose bytes are there
pub whole_fetched : (told_files : Option store.Files) (state : State) (name bytes : Bytes) (got : Result (Vec ℕ Global) Refusal) → bytes_in got ≡ fetched LONGEST_CSV (Some bytes)
    → IfSome told_files (λ files. IsFound (get files name) LONGEST_CSV bytes Whole) → AreFiles told_files state.files → IsFetched told_files (is_some told_files) state name got
whole_fetched None state name bytes got is looked files = record { found = with_file state (Some bytes); finds = refl; files = tt; bytes = sym is }
whole_fetched (Some told_files) state name bytes got is looked files =
    record { found = state; finds = refl; files = files; bytes = ap (fetched LONGEST_CSV) (files name ∙ is_whole LONGEST_CSV (get told_files name) bytes looked) ∙ sym is }

-- a file that isn't there
pub absent_fetched : (told_files : Option store.Files) (state : State) (name bytes : Bytes) → IfSome told_files (λ files. IsFound (get files name) LONGEST_CSV bytes Absent)
    → AreFiles told_files state.files → IsFetched told_files (is_some told_files) state name (Err refusal.NoFile)
absent_fetched None state name bytes looked files = record { found = with_file state None; finds = refl; files = tt; bytes = refl }
absent_fetched (Some told_files) state name bytes looked files =
    record { found = state; finds = refl; files = files; bytes = ap (fetched LONGEST_CSV) (files name ∙ is_absent LONGEST_CSV (get told_files name) bytes looked) }

-- a file that is too long
pub long_fetched : (told_files : Option store.Files) (state : State) (name bytes : Bytes) → IfSome told_files (λ files. IsFound (get files name) LONGEST_CSV bytes Long)
    → AreFiles told_files state.files → IsFetched told_files (is_some told_files) state name (Err refusal.FileTooLong)
long_fetched None state name bytes looked files = record { found = with_file state (Some (longer LONGEST_CSV).0); finds = refl; files = tt; bytes = longer_long LONGEST_CSV }
long_fetched (Some told_files) state name bytes looked files =
    record { found = state; finds = refl; files = files; bytes = ap (fetched LONGEST_CSV) (files name) ∙ is_long LONGEST_CSV (get told_files name) bytes looked }
