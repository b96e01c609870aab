-- What an interner keeps: values with their counts, in the order of first sight. Source: this project's own.
use Rattle.std.specs.Prelude.{ℕ, ◌+◌, ◌≤◌, length, Bool, true, false, List, [], ◌∷◌, sum_by}
use Rattle.std.specs.Map.{keys_of}
use Rattle.std.specs.List.{position_or_len, IsDistinct}
use Rattle.blink_base.specs.declared.value.Value.{Value}
use Rattle.blink_base.specs.Values.{same_value}
use Rattle.blink_histogram.specs.Ranks.{Counted}
use Rattle.blink_histogram.specs.Recent.{AreSeen}
use Rattle.blink_histogram.specs.declared.recent.Seen.{Seen}

-- how many values were numbered, each as often as it came
abbrev pub numbered_values : List Counted → ℕ
numbered_values counts = sum_by (λ c. c.1) counts

-- the number of a value: its place, or the next one where it is new
abbrev pub number_of : List Counted → Value → ℕ
number_of counts v = position_or_len (same_value v) (keys_of counts)

-- elements with their counts, an element counted once more: at the first that equals it, and with 1 behind all where none does
abbrev pub counting_by : {X : Type 0} → (X → X → Bool) → List (X × ℕ) → X → List (X × ℕ)
counting_by eq [] v = (v, 1) ∷ []
counting_by eq (c ∷ counts) v = elim (eq v c.0) [ true ↦ (c.0, c.1 + 1) ∷ counts | false ↦ c ∷ counting_by eq counts v ]

-- with a value counted once more
abbrev pub counting : List Counted → Value → List Counted
counting counts v = counting_by same_value counts v

-- what an interner keeps: no value twice, no more values than were numbered, and the whole numbers that were seen last stand
-- where they were seen
pub record IsInterner (counts : List Counted) (recent : List Seen) : Type 0 where
  pub apart : IsDistinct same_value (keys_of counts)
  pub fewer : length counts ≤ numbered_values counts
  pub few : numbered_values counts ≤ 4294967296
  pub seen : AreSeen (keys_of counts) recent
