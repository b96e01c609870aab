-- Counts of faults, and when an answer may be a fault. Source: this project's own.
use Rattle.std.specs.Prelude.{◌≡◌, ℕ, ◌+◌, ◌≤◌, ◌<◌, ◌⊎◌, min, Result, OnErr}

-- the last value of a count
abbrev pub last_count : ℕ
last_count = 18446744073709551615

-- a count after one more, which stays at its last value
abbrev pub next : ℕ → ℕ
next count = min (count + 1) last_count

-- the count rose, or stands at its last value
abbrev pub Rose : ℕ → ℕ → Type 0
Rose before now = (before < now) ⊎ (now ≡ last_count)

-- the count has not fallen, and an Err comes only where it rose
pub record HasCause {T E : Type 0} (before now : ℕ) (result : Result T E) : Type 0 where
  pub later : before ≤ now
  pub failed : OnErr result (Rose before now)
