-- What the loops of `write_all` and `read_all` keep.
use Rattle.std.proofs.Common.{◌≡◌, ◌≤◌, ◌+◌, ℕ, List, Option, length, take}
use Rattle.std.specs.Io.KnownBytes.{Appends, Consumes}

-- the first bytes were given, without a fault
pub record GivenSoFar {S : Type 0} (given : S → Option (List ℕ)) (faults room : S → ℕ) (first now : S) (bytes : List ℕ) (at : ℕ) : Type 0 where
  pub within : at ≤ length bytes
  pub bytes_given : Appends (given first) (given now) (take at bytes)
  pub quiet : faults now ≡ faults first
  pub sure : length bytes ≤ room first → room first ≤ room now + at

-- these bytes were taken, without a fault
pub record TakenSoFar {S : Type 0} (left : S → Option (List ℕ)) (faults : S → ℕ) (never_fails : S → Type 0) (first now : S) (bytes : List ℕ) : Type 0 where
  pub bytes_taken : Consumes (left first) (left now) bytes
  pub quiet : faults now ≡ faults first
  pub sure : never_fails first → never_fails now
