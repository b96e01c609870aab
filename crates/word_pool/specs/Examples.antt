-- Worked regions, as facts that compute. Source: this project's own.
use Rattle.std.specs.Prelude.{◌≡◌, ℕ, List, [], ◌∷◌, Option, Some, None, true, false}
use Rattle.word_pool.specs.Region.{block_at, live_count, or_at, tag_at, words_of}
use Rattle.word_pool.specs.Reservation.{passes_limit}

-- blocks 0 and 2 are live; their words are cut short
abbrev pub three_slots : List (Option (ℕ × List ℕ))
three_slots = Some (7, 1 ∷ 2 ∷ []) ∷ None ∷ Some (9, 3 ∷ []) ∷ []

-- blocks are found by their numbers, bits are put in by OR, and the limit counts the live blocks
abbrev pub BlocksAreFound : Type 0
BlocksAreFound =
    (live_count three_slots ≡ 2)
    × (block_at three_slots 1 ≡ None)
    × (block_at three_slots 3 ≡ None)
    × (tag_at (block_at three_slots 2) ≡ 9)
    × (words_of (block_at three_slots 0) ≡ 1 ∷ 2 ∷ [])
    × (or_at (1 ∷ 5 ∷ []) 1 3 ≡ 1 ∷ 7 ∷ [])
    × (passes_limit (record { slots = three_slots; limit = 3; spare = 0 }) 1 ≡ false)
    × (passes_limit (record { slots = three_slots; limit = 3; spare = 0 }) 2 ≡ true)
