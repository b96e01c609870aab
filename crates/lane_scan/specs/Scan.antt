-- Which rows of packed words lie in one of some rounds of bounds. Source: this project's own, after Johnson et al., VLDB 2008 (predicates on packed fields).
use Rattle.std.specs.Prelude.{ℕ, ◌≡◌, Bool, List, [], flat_map, replicate, slice_index_or}
use Rattle.std.specs.List.{list_any}
use Rattle.blink_lists.specs.Lists.{all_true}
use Rattle.masked_compare.specs.Fields.{lane_count}
use Rattle.masked_compare.specs.Words.{rows_in}
use Rattle.masked_compare.specs.Marks.{inside_row}
use Rattle.masked_compare.specs.Rounds.{IsRound}
use Rattle.masked_compare.specs.declared.round.Round.{Round}

-- the rows that words hold, word by word, a row for each lane
abbrev pub rows_of : List ℕ → List ℕ → List (List ℕ)
rows_of widths words = flat_map (rows_in widths) words

-- the row in the first lane of a word
abbrev pub first_row : List ℕ → ℕ → List ℕ
first_row widths word = slice_index_or (rows_in widths word) 0 []

-- every lane of a word has the same row
abbrev pub HasOneRow : List ℕ → ℕ → Type 0
HasOneRow widths word = (row : List ℕ) × (rows_in widths word ≡ replicate (lane_count widths) row)

-- a round whose bounds are the same in every lane, with zero guard bits and padding
pub record IsSpreadRound (widths : List ℕ) (round : Round) : Type 0 where
  pub clean : IsRound widths round
  pub low : HasOneRow widths round.low
  pub high : HasOneRow widths round.high

-- whether a row lies in a round: each of its codes from the low to the high code of its field
abbrev pub lies_in : List ℕ → List ℕ → Round → Bool
lies_in widths row round = all_true (inside_row (first_row widths round.low) (first_row widths round.high) row)

-- whether a row lies in one of the rounds
abbrev pub lies_in_one : List ℕ → List Round → List ℕ → Bool
lies_in_one widths rounds row = list_any (lies_in widths row) rounds

-- whether the row at a place of the words lies in one of the rounds
unfoldable pub row_lies : List ℕ → List Round → List ℕ → ℕ → Bool
row_lies widths rounds words place = lies_in_one widths rounds (slice_index_or (rows_of widths words) place [])
