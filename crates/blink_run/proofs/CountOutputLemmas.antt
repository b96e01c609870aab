-- What a count tells, by the answer of the call that counts.
use Rattle.std.specs.Prelude.{◌≡◌, ℕ, [], true, false, Result, Ok, Err, refl}
use Rattle.std.specs.Str.{str_to_ascii_lowercase}
use Rattle.blink_base.specs.declared.refusal.Refusal.TheVariants as refusal
use Rattle.blink_loader.specs.declared.column_count.RangeFault.{RangeFault}
use Rattle.blink_loader.specs.declared.column_count.RangeFault.TheVariants as fault
use Rattle.blink_loader.specs.RangeCount.{RangeRefusal, unknown_column, bad_record, arity, bad_value, told_range}
use Rattle.report_text.specs.Texts.{Bytes, refusal_bytes, number_bytes}
use Rattle.blink_run.specs.Program.{Told, told_count}

-- what an answer is printed as; want of memory is none of a count's
abbrev pub told_answer : Bytes → Result ℕ RangeFault → Told
told_answer column (Ok count) = record { printed = number_bytes count; refused = false }
told_answer column (Err fault.UnknownColumn) = record { printed = refusal_bytes (refusal.UnknownColumn (str_to_ascii_lowercase column)); refused = true }
told_answer column (Err (fault.Arity at)) = record { printed = refusal_bytes (refusal.Arity at); refused = true }
told_answer column (Err (fault.BadValue at field)) = record { printed = refusal_bytes (refusal.BadValue at field); refused = true }
told_answer column (Err fault.Memory) = record { printed = []; refused = true }

pub told_count_by_answer : (column : Bytes) (range : Result ℕ RangeRefusal) → told_count column range ≡ told_answer column (told_range range)
told_count_by_answer column (Ok count) = refl
told_count_by_answer column (Err unknown_column) = refl
told_count_by_answer column (Err (bad_record (arity at))) = refl
told_count_by_answer column (Err (bad_record (bad_value at field))) = refl
