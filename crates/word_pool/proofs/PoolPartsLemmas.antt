-- What the parts of a pool say of the region.
use Rattle.std.proofs.Common.{ℕ, ◌+◌, ◌-◌, ◌≡◌, ◌≤◌, ◌<◌, sym, ◌∙◌, ap, arith, List, ◌++◌, min, max, length, replicate, length-append, length-set}
use Rattle.std.proofs.Math.ListN.{set}
use Rattle.word_pool.specs.Numbering.{Numbering}
use Rattle.word_pool.specs.PoolParts.{region_of, AreParts}
use Rattle.word_pool.specs.Region.{Region, live_count}
use Rattle.word_pool.proofs.NumberingLemmas.{live_le}
use Rattle.word_pool.proofs.RegionLemmas.{live_slots}

-- the numbers of a region, by its parts
pub record Counted (limit : ℕ) (blocks : List (List ℕ)) (numbers : Numbering) (region : Region) : Type 0 where
  pub live : live_count region.slots ≡ live_count numbers.tags
  pub spare : live_count numbers.tags + region.spare ≡ min limit (length blocks)
  pub bound : region.limit ≡ limit

pub counted : (limit : ℕ) (blocks : List (List ℕ)) (numbers : Numbering) (region : Region) → region_of limit blocks numbers ≡ region → AreParts limit blocks numbers → Counted limit blocks numbers region
counted limit blocks numbers region e parts =
    let spare : min limit (length blocks) - live_count numbers.tags ≡ region.spare = ap (λ (v : Region). v.spare) e in
    record {
      live = sym (ap (λ (v : Region). live_count v.slots) e) ∙ live_slots numbers.tags blocks;
      spare = omega (arith, spare, live_le numbers.tags, parts.within);
      bound = sym (ap (λ (v : Region). v.limit) e);
    }

-- one number more is live, and its words are zeros
pub parts_taken : (limit : ℕ) (blocks news : List (List ℕ)) (numbers others : Numbering) (n : ℕ) (words : List ℕ)
    → AreParts limit blocks numbers → live_count numbers.tags < min limit (length blocks)
    → others.room ≡ numbers.room → live_count others.tags ≡ live_count numbers.tags + 1 → length others.tags ≤ max (length numbers.tags) (live_count others.tags)
    → news ≡ set blocks n words → AreParts limit news others
parts_taken limit blocks news numbers others n words parts room same live used written =
    let size : length news ≡ length blocks = ap length written ∙ length-set blocks n words in
    record {
      few = parts.few;
      chunked = omega (arith, size, parts.chunked);
      roomy = omega (arith, size, same, parts.roomy);
      within = omega (arith, size, live, used, parts.within, room);
    }

-- a chunk more
pub size_grown : (blocks news : List (List ℕ)) → news ≡ blocks ++ replicate 1024 (replicate 128 0) → length news ≡ length blocks + 1024
size_grown blocks news e = ap length e ∙ length-append blocks (replicate 1024 (replicate 128 0))

-- there is a chunk more, and room for its numbers
pub parts_grown : (limit : ℕ) (blocks news : List (List ℕ)) (numbers others : Numbering)
    → AreParts limit blocks numbers → length blocks < limit
    → length news ≡ length blocks + 1024 → min limit (length blocks + 1024) ≤ others.room → others.tags ≡ numbers.tags → AreParts limit news others
parts_grown limit blocks news numbers others parts less size room tags = record {
  few = parts.few;
  chunked = omega (arith, size, less);
  roomy = omega (arith, size, room);
  within = omega (arith, size, ap length tags, parts.within);
}

-- room is asked for only where the limit is above the blocks
pub below_limit : (limit : ℕ) (blocks : List (List ℕ)) (numbers : Numbering) (region : Region) → Counted limit blocks numbers region → live_count region.slots + region.spare < region.limit → length blocks < limit
below_limit limit blocks numbers region count h = omega (arith, count.live, count.spare, count.bound, h)
