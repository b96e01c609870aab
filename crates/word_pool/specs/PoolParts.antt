-- A pool by its parts: blocks, and the numbers of those in use. Source: this project's own.
use Rattle.std.specs.Prelude.{ℕ, ◌+◌, ◌-◌, ◌≤◌, ◌<◌, min, List, length}
use Rattle.word_pool.specs.Numbering.{Numbering}
use Rattle.word_pool.specs.Region.{Region, slots_of, live_count}
use Rattle.word_pool.specs.declared.limits.TheConstants.{MOST_BLOCKS}

-- the region that a limit, blocks and numbers stand for: more blocks than the limit are never taken
abbrev pub region_of : ℕ → List (List ℕ) → Numbering → Region
region_of limit blocks numbers = record { slots = slots_of numbers.tags blocks; limit = limit; spare = min limit (length blocks) - live_count numbers.tags }

-- at most one chunk passes the limit; the blocks up to the limit have their numbers, and no others are used
pub record AreParts (limit : ℕ) (blocks : List (List ℕ)) (numbers : Numbering) : Type 0 where
  pub few : limit ≤ MOST_BLOCKS
  pub chunked : length blocks < limit + 1024
  pub roomy : min limit (length blocks) ≤ numbers.room
  pub within : length numbers.tags ≤ min limit (length blocks)
