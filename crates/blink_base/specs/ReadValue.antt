-- The value that a text says, or why it says none. Source: this project's own.
use Rattle.std.specs.Prelude.{ℤ, ℕ, List, length, Option, Some, None, Result, Ok, Err, nat_le, not, if◌then◌else◌}
use Rattle.blink_base.specs.Texts.{is_text}
use Rattle.blink_base.specs.Dates.{date_of}
use Rattle.blink_base.specs.Numbers.{is_number, number_of, significant, without_minus}
use Rattle.blink_base.specs.declared.limits.TheConstants.{MOST_DIGITS, LONGEST_TEXT}
use Rattle.blink_base.specs.declared.value.Kind.{Kind}
use Rattle.blink_base.specs.declared.value.Value.{Value}
use Rattle.blink_base.specs.declared.value.ValueFault.{ValueFault}
use Rattle.blink_base.specs.declared.value.Kind.TheVariants as kind
use Rattle.blink_base.specs.declared.value.Value.TheVariants as value
use Rattle.blink_base.specs.declared.value.ValueFault.TheVariants as fault

-- the whole number that a text says, or the first form that it breaks
abbrev pub read_number : List ℕ → Result ℤ ValueFault
read_number text =
    if not (is_number text) then Err fault.NotNumber
    else (if nat_le (length (significant (without_minus text))) MOST_DIGITS then Ok (number_of text) else Err fault.TooLong)

-- a whole number as a value
abbrev pub int_or_fault : Result ℤ ValueFault → Result Value ValueFault
int_or_fault (Ok number) = Ok (value.Int number)
int_or_fault (Err why) = Err why

-- the whole number that the bytes say, as a value
abbrev pub read_int : List ℕ → Result Value ValueFault
read_int text = int_or_fault (read_number text)

-- the bytes as a text, or the first form that they break
abbrev pub read_text : List ℕ → Result Value ValueFault
read_text text =
    if not (is_text text) then Err fault.NotUtf8
    else (if nat_le (length text) LONGEST_TEXT then Ok (value.Text text) else Err fault.LongText)

-- a date, or that it is none
abbrev pub date_or_fault : Option ℤ → Result Value ValueFault
date_or_fault (Some d) = Ok (value.Date d)
date_or_fault None = Err fault.NotDate

-- the value of a kind that the bytes say, or the first form that they break
abbrev pub read_value : Kind → List ℕ → Result Value ValueFault
read_value kind.Int text = read_int text
read_value kind.Text text = read_text text
read_value kind.Date text = date_or_fault (date_of text)

-- the whole number that a value is, where it is one
abbrev pub number_if : Result Value ValueFault → Option ℤ
number_if (Ok (value.Int number)) = Some number
number_if (Ok (value.Text text)) = None
number_if (Ok (value.Date date)) = None
number_if (Err why) = None

-- the whole number that the bytes say, where they say one
abbrev pub whole_number : List ℕ → Option ℤ
whole_number text = number_if (read_int text)
