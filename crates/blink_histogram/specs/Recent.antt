-- Whole numbers that were seen last, each with its place among values. Source: this project's own.
use Rattle.std.specs.Prelude.{◌≡◌, ◌+◌, ℕ, List, Some, slice_get, All}
use Rattle.blink_base.specs.declared.value.Value.{Value}
use Rattle.blink_base.specs.declared.value.Value.TheVariants.{Int}
use Rattle.blink_histogram.specs.declared.recent.Seen.{Seen}

-- the number of a slot stands among these values at the slot's place
abbrev pub IsSeen : List Value → Seen → Type 0
IsSeen keys seen = (place : ℕ) → seen.next ≡ place + 1 → slice_get keys place ≡ Some (Int seen.number)

-- and so does that of each slot
abbrev pub AreSeen : List Value → List Seen → Type 0
AreSeen keys slots = All (IsSeen keys) slots
