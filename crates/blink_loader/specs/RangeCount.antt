-- How many records of a CSV text have a column within bounds, or the first refusal. Source: this project's own.
use Rattle.std.specs.Prelude.{ℕ, ◌+◌, ℤ, int_le, Bool, true, false, ◌&&◌, ◌==◌, List, [], ◌∷◌, length, count_by, Option, Some, None, Result, Ok, Err, slice_index_or}
use Rattle.std.specs.List.{position_from}
use Rattle.blink_base.specs.ReadValue.{whole_number}
use Rattle.blink_loader.specs.declared.column_count.RangeFault.{RangeFault}
use Rattle.blink_loader.specs.declared.column_count.RangeFault.TheVariants as fault
use Rattle.blink_loader.specs.Records.{Record, records_of, same_name}

-- what is wrong with a record, by its number: its length, or a field that says no whole number, both counted from 1
pub data RecordFault : Type 0 where
  arity : ℕ → RecordFault
  bad_value : ℕ → ℕ → RecordFault

-- why there is no count: the header lacks the column, or the first record at fault
pub data RangeRefusal : Type 0 where
  unknown_column : RangeRefusal
  bad_record : RecordFault → RangeRefusal

-- whether a field says no whole number
abbrev pub is_bad : Option ℤ → Bool
is_bad None = true
is_bad (Some n) = false

-- the first field of a record that says none, counted from 1
abbrev pub bad_field : Record → Option ℕ
bad_field fields = position_from (λ field. is_bad (whole_number field)) 1 fields

-- the fault of a field, where there is one
abbrev pub bad_value_if : ℕ → Option ℕ → Option RecordFault
bad_value_if at None = None
bad_value_if at (Some field) = Some (bad_value at field)

-- the first fault of the record of this number: its length, and then its fields
abbrev pub record_fault : ℕ → ℕ → Record → Option RecordFault
record_fault width at fields = elim (length fields == width) [ true ↦ bad_value_if at (bad_field fields) | false ↦ Some (arity at) ]

-- the first of two faults
abbrev pub fault_or : Option RecordFault → Option RecordFault → Option RecordFault
fault_or None later = later
fault_or (Some first) later = Some first

-- the first fault of the records from this number on
abbrev pub first_fault : ℕ → ℕ → List Record → Option RecordFault
first_fault width at [] = None
first_fault width at (fields ∷ rest) = fault_or (record_fault width at fields) (first_fault width (at + 1) rest)

-- whether a number lies from low to high
abbrev pub is_within : ℤ → ℤ → Option ℤ → Bool
is_within low high None = false
is_within low high (Some n) = int_le low n && int_le n high

-- whether a record has the column within the bounds
abbrev pub is_counted : ℕ → ℤ → ℤ → Record → Bool
is_counted column low high fields = is_within low high (whole_number (slice_index_or fields column []))

-- the count, where there is no fault
abbrev pub count_unless : Option RecordFault → ℕ → Result ℕ RangeRefusal
count_unless None count = Ok count
count_unless (Some why) count = Err (bad_record why)

-- below a header of this length: how many records have the column within the bounds
abbrev pub count_below : ℕ → ℕ → ℤ → ℤ → List Record → Result ℕ RangeRefusal
count_below width column low high rest = count_unless (first_fault width 1 rest) (count_by (is_counted column low high) rest)

-- below a header in which the column stands at this place
abbrev pub range_at : Option ℕ → Record → List Record → ℤ → ℤ → Result ℕ RangeRefusal
range_at None header rest low high = Err unknown_column
range_at (Some column) header rest low high = count_below (length header) column low high rest

-- the place of a column in a header: the first field of that name, the case of ASCII letters apart
abbrev pub column_place : List ℕ → Record → Option ℕ
column_place name header = position_from (same_name name) 0 header

-- how many fields the first of the records has
abbrev pub width_of : List Record → ℕ
width_of [] = 0
width_of (header ∷ rest) = length header

-- the count over records, the first of them the header
abbrev pub range_over : List Record → List ℕ → ℤ → ℤ → Result ℕ RangeRefusal
range_over [] name low high = Err unknown_column
range_over (header ∷ rest) name low high = range_at (column_place name header) header rest low high

-- the count over the records of a text, or the first refusal
abbrev pub range_of : List ℕ → List ℕ → ℤ → ℤ → Result ℕ RangeRefusal
range_of text name low high = range_over (records_of text) name low high

-- a record's fault as the answer of a call
abbrev pub told_fault : RecordFault → RangeFault
told_fault (arity at) = fault.Arity at
told_fault (bad_value at field) = fault.BadValue at field

-- a count or a refusal as the answer of a call
abbrev pub told_range : Result ℕ RangeRefusal → Result ℕ RangeFault
told_range (Ok count) = Ok count
told_range (Err unknown_column) = Err fault.UnknownColumn
told_range (Err (bad_record why)) = Err (told_fault why)
