-- A column's values by their numbers. Source: this project's own.
use Rattle.std.specs.Prelude.{◌≡◌, ℕ, pos, List, Some, map, length, slice_get, slice_index_or}
use Rattle.std.specs.Map.{keys_of}
use Rattle.blink_base.specs.declared.value.Value.{Value}
use Rattle.blink_base.specs.declared.value.Value.TheVariants.{Int}
use Rattle.blink_histogram.specs.Ranks.{Counted, counted}
use Rattle.blink_histogram.specs.InternerRepr.{numbered_values}

-- the values of numbers, each its place among those that came
abbrev pub values_of : List Value → List ℕ → List Value
values_of keys numbers = map (λ n. slice_index_or keys n (Int (pos 0))) numbers

-- each number is that of a value that came, and the counts are those of the values
pub record IsNumbered (counts : List Counted) (numbers : List ℕ) : Type 0 where
  pub counts_are : counts ≡ counted (values_of (keys_of counts) numbers)
  pub found : map (slice_get (keys_of counts)) numbers ≡ map Some (values_of (keys_of counts) numbers)
  pub many : numbered_values counts ≡ length numbers
