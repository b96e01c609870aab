-- The rows that a bank and a pool stand for: packed into words, in blocks of the pool. Source: after Johnson et al., VLDB 2008 (packed fields); pages and blocks are this project's own.
use Rattle.std.specs.Prelude.{ℕ, zero, suc, ◌+◌, ◌-◌, ◌*◌, ◌/◌, ◌≡◌, true, false, nat_eq, min, Option, List, [], ◌∷◌, length, take, drop, map}
use Rattle.std.specs.List.{list_any}
use Rattle.blink_lists.specs.Lists.{joined, are_distinct}
use Rattle.masked_compare.specs.Fields.{lane_bits, lane_count}
use Rattle.masked_compare.specs.Words.{word_of, IsRow, IsClean}
use Rattle.word_pool.specs.Region.{block_at, words_of, tag_at, IsLive}
use Rattle.bank_pack.specs.Banks.{ceil_div, pages_for}
use Rattle.blink_lists.specs.declared.limits.TheConstants.{PAGE_ROWS}

-- how many words a block has
abbrev pub block_words : ℕ
block_words = 128

-- how many blocks a page of rows of these widths takes
abbrev pub blocks_of_page : List ℕ → ℕ
blocks_of_page widths = lane_bits widths / 8

-- how many blocks so many rows of these widths take
abbrev pub blocks_of_rows : List ℕ → ℕ → ℕ
blocks_of_rows widths rows = pages_for rows * blocks_of_page widths

-- how many of so many rows are in a page
abbrev pub rows_of_page : ℕ → ℕ → ℕ
rows_of_page rows page = min (rows - PAGE_ROWS * page) PAGE_ROWS

-- how many rows of a page of these widths are in the blocks before this one
abbrev pub rows_before : List ℕ → ℕ → ℕ
rows_before widths block = block_words * lane_count widths * block

-- how many words of a block of a page hold rows
abbrev pub words_with_rows : List ℕ → ℕ → ℕ → ℕ → ℕ
words_with_rows widths rows page block = min (ceil_div (rows_of_page rows page - rows_before widths block) (lane_count widths)) block_words

-- the rows in so many words of n lanes, the first row lowest in the first word; what is past the last row is zero
unfoldable pub packed : List ℕ → ℕ → ℕ → List (List ℕ) → List ℕ
packed widths n zero rows = []
packed widths n (suc words) rows = word_of widths (take n rows) ∷ packed widths n words (drop n rows)

-- the words of these blocks, one block behind the other
abbrev pub bank_words : List (Option (ℕ × List ℕ)) → List ℕ → List ℕ
bank_words slots ids = joined (map (λ id. words_of (block_at slots id)) ids)

-- a number is one of these
abbrev pub IsAmong : ℕ → List ℕ → Type 0
IsAmong x ids = list_any (nat_eq x) ids ≡ true

-- a number is none of these
abbrev pub IsOther : ℕ → List ℕ → Type 0
IsOther x ids = list_any (nat_eq x) ids ≡ false

-- no number stands twice
abbrev pub AreApart : List ℕ → Type 0
AreApart ids = are_distinct nat_eq ids ≡ true

-- each block has 128 words
abbrev pub AreWhole : List (Option (ℕ × List ℕ)) → List ℕ → Type 0
AreWhole slots [] = Unit {0}
AreWhole slots (id ∷ ids) = (length (words_of (block_at slots id)) ≡ block_words) × AreWhole slots ids

-- each block is live
abbrev pub AreLive : List (Option (ℕ × List ℕ)) → List ℕ → Type 0
AreLive slots [] = Unit {0}
AreLive slots (id ∷ ids) = IsLive slots id × AreLive slots ids

-- each block is live with this tag
abbrev pub AreTagged : ℕ → List (Option (ℕ × List ℕ)) → List ℕ → Type 0
AreTagged tag slots [] = Unit {0}
AreTagged tag slots (id ∷ ids) = IsLive slots id × (tag_at (block_at slots id) ≡ tag) × AreTagged tag slots ids

-- each row has one code for each width, within it
abbrev pub AreRows : List ℕ → List (List ℕ) → Type 0
AreRows widths [] = Unit {0}
AreRows widths (row ∷ rows) = IsRow widths row × AreRows widths rows

-- each word has zeros in its guard bits and in its padding
abbrev pub AreClean : List ℕ → List ℕ → Type 0
AreClean widths [] = Unit {0}
AreClean widths (word ∷ words) = IsClean widths word × AreClean widths words

-- these blocks hold these rows
pub record IsPacked (widths : List ℕ) (slots : List (Option (ℕ × List ℕ))) (ids : List ℕ) (rows : List (List ℕ)) : Type 0 where
  pub apart : AreApart ids
  pub whole : AreWhole slots ids
  pub coded : AreRows widths rows
  pub words : bank_words slots ids ≡ packed widths (lane_count widths) (block_words * length ids) rows

-- these blocks stand for these rows: they hold them, and are as many as the pages begun take
pub record IsBank (widths : List ℕ) (slots : List (Option (ℕ × List ℕ))) (ids : List ℕ) (rows : List (List ℕ)) : Type 0 where
  pub pages : length ids ≡ blocks_of_rows widths (length rows)
  pub packed : IsPacked widths slots ids rows
