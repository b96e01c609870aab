-- The numbers of a demonstration. Source: this project's own.
use Rattle.std.specs.Prelude.{ℕ, ℤ, pos, negsuc, ◌&&◌, not, length, nat_le, Option, Some, None, if◌then◌else◌}
use Rattle.blink_base.specs.Numbers.{has_minus}
use Rattle.blink_base.specs.ReadValue.{whole_number}
use Rattle.blink_gen.specs.declared.limits.TheConstants.{MOST_DEMO_ROWS, MOST_SEED}
use Rattle.report_text.specs.Texts.{Bytes}
use Rattle.blink_run.specs.declared.arguments.demo.TheConstants.{MOST_DEMO_DIGITS}

-- a number from the least to the most
abbrev pub within : ℕ → ℕ → ℕ → Option ℕ
within least most n = if nat_le least n && nat_le n most then Some n else None

-- a whole number from the least to the most
abbrev pub from_to : ℕ → ℕ → Option ℤ → Option ℕ
from_to least most None = None
from_to least most (Some (pos n)) = within least most n
from_to least most (Some (negsuc n)) = None

-- a whole number from the least to the most, written without a minus in at most ten bytes, which are digits then; zeros may lead
abbrev pub demo_number : ℕ → ℕ → Bytes → Option ℕ
demo_number least most word =
    if nat_le (length word) MOST_DEMO_DIGITS && not (has_minus word) then from_to least most (whole_number word) else None

-- the seed of a demonstration
abbrev pub seed_of : Bytes → Option ℕ
seed_of word = demo_number 0 MOST_SEED word

-- the number of orders of a demonstration
abbrev pub rows_of : Bytes → Option ℕ
rows_of word = demo_number 1 MOST_DEMO_ROWS word
