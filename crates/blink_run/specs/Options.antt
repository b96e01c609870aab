-- The options of `run`. Source: this project's own.
use Rattle.std.specs.Prelude.{ℕ, ℤ, pos, negsuc, ◌&&◌, List, [], ◌∷◌, length, codes, nat_le, Option, Some, None, if◌then◌else◌}
use Rattle.std.specs.Str.{bytes_eq}
use Rattle.blink_base.specs.declared.limits.Limits.{Limits}
use Rattle.blink_base.specs.ReadValue.{whole_number}
use Rattle.blink_base.specs.declared.limits.TheConstants.{MOST_BLOCKS}
use Rattle.blink_lists.specs.declared.limits.TheConstants.{MOST_ROWS}
use Rattle.report_text.specs.Texts.{Bytes}
use Rattle.blink_run.specs.declared.arguments.options.TheConstants.{MOST_OPTION_DIGITS}

-- how many rows a table may have, and how many blocks all tables, where the arguments don't say it
abbrev pub standard_limits : Limits
standard_limits = record { rows = MOST_ROWS; blocks = MOST_BLOCKS }

-- a whole number from 1 to the most
abbrev pub from_one_to : ℕ → Option ℤ → Option ℕ
from_one_to most None = None
from_one_to most (Some (pos n)) = if nat_le 1 n && nat_le n most then Some n else None
from_one_to most (Some (negsuc n)) = None

-- a whole number from 1 to the most, written in at most nine bytes, which are digits then; zeros may lead
abbrev pub number_within : ℕ → Bytes → Option ℕ
number_within most word = if nat_le (length word) MOST_OPTION_DIGITS then from_one_to most (whole_number word) else None

-- the number of an option, where the word before it is the option's
abbrev pub option_number : Bytes → ℕ → Bytes → Bytes → Option ℕ
option_number option most word number = if bytes_eq word option then number_within most number else None

-- the number of `--rows`
abbrev pub rows_option : Bytes → Bytes → Option ℕ
rows_option word number = option_number (codes "--rows") standard_limits.rows word number

-- the number of `--blocks`
abbrev pub blocks_option : Bytes → Bytes → Option ℕ
blocks_option word number = option_number (codes "--blocks") standard_limits.blocks word number

-- the limits of both numbers, where both are there
abbrev pub limits_made : Option ℕ → Option ℕ → Option Limits
limits_made (Some rows) (Some blocks) = Some (record { rows = rows; blocks = blocks })
limits_made (Some rows) None = None
limits_made None blocks = None

-- the first that is there
abbrev pub or_else : Option Limits → Option Limits → Option Limits
or_else (Some limits) other = Some limits
or_else None other = other

-- the limits that the arguments behind `run` say: each option at most once, in any order
abbrev pub limits_of : List Bytes → Option Limits
limits_of [] = Some standard_limits
limits_of (a ∷ []) = None
limits_of (a ∷ n ∷ []) = or_else (limits_made (rows_option a n) (Some standard_limits.blocks)) (limits_made (Some standard_limits.rows) (blocks_option a n))
limits_of (a ∷ n ∷ b ∷ []) = None
limits_of (a ∷ n ∷ b ∷ m ∷ []) = or_else (limits_made (rows_option a n) (blocks_option b m)) (limits_made (rows_option b m) (blocks_option a n))
limits_of (a ∷ n ∷ b ∷ m ∷ c ∷ rest) = None
