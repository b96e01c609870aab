-- Where a test of rising values ends to be true, and where a value stands among them. Source: after Raman et al., ICDE 2008 (order-preserving codes within a partition).
use Rattle.std.specs.Prelude.{◌≡◌, ◌<◌, ◌≤◌, ◌==◌, ℕ, Bool, false, List, length, nat_lt, slice_index_or, Option, Some, None}
use Rattle.blink_base.specs.declared.value.Value.{Value}
use Rattle.blink_base.specs.Values.{same_value}

-- the values of which a test is true are the first so many
abbrev pub IsCut : List Value → (Value → Bool) → ℕ → Type 0
IsCut values test count = (count ≤ length values) × ((k : ℕ) (d : Value) → k < length values → test (slice_index_or values k d) ≡ nat_lt k count)

-- whether a code is this one
abbrev pub is_code : Option ℕ → ℕ → Bool
is_code None k = false
is_code (Some code) k = k == code

-- the one code whose value is equal to a value, if there is one
abbrev pub IsCodeOf : List Value → Value → Option ℕ → Type 0
IsCodeOf values value code = (k : ℕ) (d : Value) → k < length values → same_value (slice_index_or values k d) value ≡ is_code code k
