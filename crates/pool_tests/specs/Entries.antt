-- Blocks that a test keeps a list of. Source: this project's own.
use Rattle.std.specs.Prelude.{ℕ, ◌<◌, ◌≢◌, List, length, Option, slice_index_or}
use Rattle.word_pool.specs.Region.{IsLive}

-- the blocks of these entries are live, and none is in two entries; each entry has the number of its block
pub record AreHeld {X : Type 0} (slots : List (Option (ℕ × List ℕ))) (entries : List X) (number : X → ℕ) : Type 0 where
  pub live : (k : ℕ) (d : X) → k < length entries → IsLive slots (number (slice_index_or entries k d))
  pub apart : (j k : ℕ) (d e : X) → j < length entries → k < length entries → j ≢ k → number (slice_index_or entries j d) ≢ number (slice_index_or entries k e)
