-- The region of packed words: blocks of 128 words, each live under a tag or free. Source: this project's own.
use Rattle.std.specs.Prelude.{ℕ, List, [], ◌∷◌, filter, length, Option, Some, None, is_some, IsSome, option_map, slice_index_or, slice_set, bit_or}

-- the blocks by their numbers, each a tag and words where it is live and nothing where it is free; how many may be live at once; and how many may be taken before room is asked for
pub record Region : Type 0 where
  pub slots : List (Option (ℕ × List ℕ))
  pub limit : ℕ
  pub spare : ℕ

-- the block of this number, where it is live
abbrev pub block_at : List (Option (ℕ × List ℕ)) → ℕ → Option (ℕ × List ℕ)
block_at slots k = slice_index_or slots k None

-- the block of this number is live
abbrev pub IsLive : List (Option (ℕ × List ℕ)) → ℕ → Type 0
IsLive slots k = IsSome (block_at slots k)

-- the tag of a block
abbrev pub tag_at : Option (ℕ × List ℕ) → ℕ
tag_at None = 0
tag_at (Some block) = block.0

-- the words of a block
abbrev pub words_of : Option (ℕ × List ℕ) → List ℕ
words_of None = []
words_of (Some block) = block.1

-- how many blocks are live
abbrev pub live_count : {X : Type 0} → List (Option X) → ℕ
live_count slots = length (filter is_some slots)

-- one word becomes its OR with these bits
abbrev pub or_at : List ℕ → ℕ → ℕ → List ℕ
or_at words at bits = slice_set words at (bit_or (slice_index_or words at 0) bits)

-- the words of a number under its tag, if it has one
abbrev pub slot_of : Option ℕ → List ℕ → Option (ℕ × List ℕ)
slot_of tag words = option_map (λ t. (t, words)) tag

-- the words of each number under its tag
abbrev pub slots_of : List (Option ℕ) → List (List ℕ) → List (Option (ℕ × List ℕ))
slots_of [] blocks = []
slots_of (tag ∷ tags) [] = slot_of tag [] ∷ slots_of tags []
slots_of (tag ∷ tags) (words ∷ blocks) = slot_of tag words ∷ slots_of tags blocks
