-- A count after one more.
use Rattle.std.proofs.Common.{◌≤◌, ℕ, arith}
use Rattle.blink_edge.specs.Causes.{last_count, next, Rose}

-- it rises, or stands at its last value
pub next_rises : (count : ℕ) → count ≤ last_count → Rose count (next count)
next_rises count within = grind arith
