-- Rows of codes side by side in the lanes of a word, and read back. Source: after Johnson et al., VLDB 2008 (packed fields).
use Rattle.std.specs.Prelude.{ℕ, zero, suc, ◌+◌, ◌*◌, ◌/◌, ◌%◌, ◌^◌, ◌≡◌, ◌<◌, List, [], ◌∷◌, map}
use Rattle.masked_compare.specs.Fields.{lane_bits, lane_count}

-- the number of a lane of these codes: the first field lowest, each guard bit zero
abbrev pub lane_of : List ℕ → List ℕ → ℕ
lane_of [] codes = 0
lane_of (w ∷ ws) [] = 0
lane_of (w ∷ ws) (c ∷ cs) = lane_of ws cs * 2 ^ (w + 1) + c

-- lanes of so many bits side by side, the first lowest
abbrev pub stacked : ℕ → List ℕ → ℕ
stacked bits [] = 0
stacked bits (x ∷ xs) = stacked bits xs * 2 ^ bits + x

-- the word of these rows, a lane a row, the first lowest
unfoldable pub word_of : List ℕ → List (List ℕ) → ℕ
word_of widths rows = stacked (lane_bits widths) (map (lane_of widths) rows)

-- the codes of a lane, read back
abbrev pub codes_in : List ℕ → ℕ → List ℕ
codes_in [] x = []
codes_in (w ∷ ws) x = (x % 2 ^ w) ∷ codes_in ws (x / 2 ^ (w + 1))

-- so many lanes of so many bits, read back
abbrev pub lanes_in : ℕ → ℕ → ℕ → List ℕ
lanes_in bits zero x = []
lanes_in bits (suc n) x = (x % 2 ^ bits) ∷ lanes_in bits n (x / 2 ^ bits)

-- the rows of codes in a word, one for each lane
unfoldable pub rows_in : List ℕ → ℕ → List (List ℕ)
rows_in widths word = map (codes_in widths) (lanes_in (lane_bits widths) (lane_count widths) word)

-- one code for each field, each within its width
abbrev pub IsRow : List ℕ → List ℕ → Type 0
IsRow [] codes = codes ≡ []
IsRow (w ∷ ws) [] = ⊥
IsRow (w ∷ ws) (c ∷ cs) = (c < 2 ^ w) × IsRow ws cs

-- a lane whose guard bits and padding are zero
abbrev pub IsCleanLane : List ℕ → ℕ → Type 0
IsCleanLane [] x = x ≡ 0
IsCleanLane (w ∷ ws) x = (x / 2 ^ w % 2 ≡ 0) × IsCleanLane ws (x / 2 ^ (w + 1))

-- so many lanes of so many bits whose guard bits and padding are zero
abbrev pub HasCleanLanes : List ℕ → ℕ → ℕ → ℕ → Type 0
HasCleanLanes widths bits zero x = Unit {0}
HasCleanLanes widths bits (suc n) x = IsCleanLane widths (x % 2 ^ bits) × HasCleanLanes widths bits n (x / 2 ^ bits)

-- a word whose guard bits and padding are zero
unfoldable pub IsClean : List ℕ → ℕ → Type 0
IsClean widths word = HasCleanLanes widths (lane_bits widths) (lane_count widths) word
