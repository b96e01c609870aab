-- What the program prints for the arguments and its input. Source: this project's own.
use Rattle.std.specs.Prelude.{◌≡◌, ℕ, ℤ, Bool, true, false, List, [], ◌∷◌, codes, Option, Some, None, Result, Ok, Err, if◌then◌else◌}
use Rattle.std.specs.FinMap.{get}
use Rattle.std.specs.List.{concat}
use Rattle.std.specs.Str.{bytes_eq, str_to_ascii_lowercase}
use Rattle.blink_base.specs.declared.limits.Limits.{Limits}
use Rattle.blink_base.specs.declared.refusal.Refusal.{Refusal}
use Rattle.blink_base.specs.declared.refusal.Refusal.TheVariants as refusal
use Rattle.blink_base.specs.ReadValue.{whole_number}
use Rattle.report_text.specs.Texts.{Bytes, refusal_bytes, number_bytes, usage_bytes}
use Rattle.blink_gen.specs.Demo.{demo_files, demo_script}
use Rattle.blink_loader.specs.RangeCount.{RangeRefusal, unknown_column, bad_record, arity, bad_value, range_of}
use Rattle.star_engine.specs.State.{Files}
use Rattle.star_engine.specs.Step.{Outcome}
use Rattle.blink_run.specs.DemoNumbers.{seed_of, rows_of}
use Rattle.blink_run.specs.Options.{limits_of, standard_limits}
use Rattle.blink_run.specs.Script.{ScriptRuns, outputs_of, is_any_refused}
use Rattle.blink_run.specs.declared.top_call.status.Status.{Status}
use Rattle.blink_run.specs.declared.top_call.status.Status.TheVariants as status

-- what the arguments ask for: a script under limits, the count of a column between two whole numbers, the demonstration of a seed and so many orders, or nothing that is known
pub data Asked : Type 0 where
  to_run : Limits → Asked
  to_count : Bytes → ℤ → ℤ → Asked
  to_demo : ℕ → ℕ → Asked
  nothing_known : Asked

-- a script under the limits, where the options say some
abbrev pub run_asked : Option Limits → Asked
run_asked (Some limits) = to_run limits
run_asked None = nothing_known

-- a count between two whole numbers, where both are
abbrev pub count_asked : Bytes → Option ℤ → Option ℤ → Asked
count_asked column (Some low) (Some high) = to_count column low high
count_asked column (Some low) None = nothing_known
count_asked column None high = nothing_known

-- the arguments behind `range`: a column and two whole numbers
abbrev pub count_form : List Bytes → Asked
count_form [] = nothing_known
count_form (column ∷ []) = nothing_known
count_form (column ∷ low ∷ []) = nothing_known
count_form (column ∷ low ∷ high ∷ []) = count_asked column (whole_number low) (whole_number high)
count_form (column ∷ low ∷ high ∷ more ∷ args) = nothing_known

-- a demonstration, where the seed and the number of orders are some that it may have
abbrev pub demo_asked : Option ℕ → Option ℕ → Asked
demo_asked (Some seed) (Some rows) = to_demo seed rows
demo_asked (Some seed) None = nothing_known
demo_asked None rows = nothing_known

-- the arguments behind `demo`: a seed and a number of orders
abbrev pub demo_form : List Bytes → Asked
demo_form [] = nothing_known
demo_form (seed ∷ []) = nothing_known
demo_form (seed ∷ rows ∷ []) = demo_asked (seed_of seed) (rows_of rows)
demo_form (seed ∷ rows ∷ more ∷ args) = nothing_known

-- what the arguments ask for
abbrev pub asked_by : List Bytes → Asked
asked_by [] = nothing_known
asked_by (verb ∷ args) =
    if bytes_eq verb (codes "run") then run_asked (limits_of args)
    else if bytes_eq verb (codes "range") then count_form args
    else if bytes_eq verb (codes "demo") then demo_form args
    else nothing_known

-- what a run tells: what it prints, and whether it refuses anything
pub record Told : Type 0 where
  pub printed : Bytes
  pub refused : Bool

-- what a script tells: the outputs of its statements, one behind the other
abbrev pub told_script : List Outcome → Told
told_script outcomes = record { printed = concat (outputs_of outcomes); refused = is_any_refused outcomes }

-- the refusal of a count; the column's name is printed with small letters
abbrev pub range_refusal : Bytes → RangeRefusal → Refusal
range_refusal column unknown_column = refusal.UnknownColumn (str_to_ascii_lowercase column)
range_refusal column (bad_record (arity at)) = refusal.Arity at
range_refusal column (bad_record (bad_value at field)) = refusal.BadValue at field

-- what a count tells: its line, or its refusal
abbrev pub told_count : Bytes → Result ℕ RangeRefusal → Told
told_count column (Ok count) = record { printed = number_bytes count; refused = false }
told_count column (Err why) = record { printed = refusal_bytes (range_refusal column why); refused = true }

-- what the count of a column between two whole numbers tells of an input
abbrev pub count_told : Bytes → ℤ → ℤ → Bytes → Told
count_told column low high input = told_count column (range_of input column low high)

-- the files of a demonstration
abbrev pub demo_store : ℕ → ℕ → Files
demo_store seed rows name = get (demo_files seed rows) name

-- what the program tells for what is asked, over an input and files, which stay where the store tells them; a demonstration is its script over files of its own
abbrev pub Tells : Asked → Bool → Files → Bytes → Told → Type 0
Tells (to_run limits) stay files input told = (outcomes : List Outcome) × ScriptRuns limits stay files input outcomes × (told ≡ told_script outcomes)
Tells (to_count column low high) stay files input told = told ≡ count_told column low high input
Tells (to_demo seed rows) stay files input told =
    (outcomes : List Outcome) × ScriptRuns standard_limits true (demo_store seed rows) demo_script outcomes × (told ≡ told_script outcomes)
Tells nothing_known stay files input told = told ≡ record { printed = usage_bytes; refused = false }

-- the status of a run that came to its end
abbrev pub status_of : Asked → Told → Status
status_of (to_run limits) told = if told.refused then status.Refused else status.Done
status_of (to_count column low high) told = if told.refused then status.Refused else status.Done
status_of (to_demo seed rows) told = if told.refused then status.Refused else status.Done
status_of nothing_known told = status.Usage
