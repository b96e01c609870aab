-- Laws of the region. Source: this project's own.
use Rattle.std.specs.Prelude.{◌≡◌, ◌≢◌, ℕ, List, map, Option, false, nat_eq}
use Rattle.std.specs.List.{list_any}
use Rattle.word_pool.specs.Region.{block_at}

-- a change of one block leaves what any list of other blocks stands for
abbrev pub KeepsOtherBlocks : Type 0
KeepsOtherBlocks = (before after : List (Option (ℕ × List ℕ))) (n : ℕ) (ids : List ℕ)
    → ((k : ℕ) → k ≢ n → block_at after k ≡ block_at before k)
    → list_any (nat_eq n) ids ≡ false
    → map (block_at after) ids ≡ map (block_at before) ids
