-- Truth values at the guard bits of the fields of a word, and at the top bits of its lanes. Source: after Johnson et al., VLDB 2008 (comparison of all fields at once).
use Rattle.std.specs.Prelude.{ℕ, zero, suc, ◌+◌, ◌-◌, ◌*◌, ◌/◌, ◌%◌, ◌^◌, ◌≡◌, ◌==◌, Bool, not, ◌&&◌, nat_le, if◌then◌else◌, List, [], ◌∷◌, map, replicate}
use Rattle.std.specs.List.{list_any, zip}
use Rattle.masked_compare.specs.Fields.{lane_bits, lane_count}
use Rattle.masked_compare.specs.Words.{stacked, lanes_in, rows_in}

-- the guard bits of a lane
abbrev pub lane_guards : List ℕ → ℕ
lane_guards [] = 0
lane_guards (w ∷ ws) = lane_guards ws * 2 ^ (w + 1) + 1 * 2 ^ w

-- the guard bits of every lane
unfoldable pub guards_of : List ℕ → ℕ
guards_of widths = stacked (lane_bits widths) (replicate (lane_count widths) (lane_guards widths))

-- the top bit of every lane
unfoldable pub tops_of : List ℕ → ℕ
tops_of widths = stacked (lane_bits widths) (replicate (lane_count widths) (2 ^ (lane_bits widths - 1)))

-- the number of a truth value
abbrev pub bit_of : Bool → ℕ
bit_of mark = if mark then 1 else 0

-- the guard bits of a lane at the fields that are true
abbrev pub lane_marks : List ℕ → List Bool → ℕ
lane_marks [] marks = 0
lane_marks (w ∷ ws) [] = 0
lane_marks (w ∷ ws) (m ∷ ms) = lane_marks ws ms * 2 ^ (w + 1) + bit_of m * 2 ^ w

-- the word with the guard bits of the fields that are true, a list of truth values for each lane
unfoldable pub marks_of : List ℕ → List (List Bool) → ℕ
marks_of widths marks = stacked (lane_bits widths) (map (lane_marks widths) marks)

-- whether the guard bit of each field of a lane is set
abbrev pub marks_in : List ℕ → ℕ → List Bool
marks_in [] x = []
marks_in (w ∷ ws) x = (x / 2 ^ w % 2 == 1) ∷ marks_in ws (x / 2 ^ (w + 1))

-- whether the guard bit of each field of a word is set, a list for each lane
unfoldable pub marked_in : List ℕ → ℕ → List (List Bool)
marked_in widths word = map (marks_in widths) (lanes_in (lane_bits widths) (lane_count widths) word)

-- a lane with guard bits alone
abbrev pub IsMarkedLane : List ℕ → ℕ → Type 0
IsMarkedLane [] x = x ≡ 0
IsMarkedLane (w ∷ ws) x = (x % 2 ^ w ≡ 0) × IsMarkedLane ws (x / 2 ^ (w + 1))

-- so many lanes of so many bits with guard bits alone
abbrev pub HasMarkedLanes : List ℕ → ℕ → ℕ → ℕ → Type 0
HasMarkedLanes widths bits zero x = Unit {0}
HasMarkedLanes widths bits (suc n) x = IsMarkedLane widths (x % 2 ^ bits) × HasMarkedLanes widths bits n (x / 2 ^ bits)

-- a word with guard bits alone
unfoldable pub IsMarked : List ℕ → ℕ → Type 0
IsMarked widths word = HasMarkedLanes widths (lane_bits widths) (lane_count widths) word

-- whether a code lies from the low to the high one
abbrev pub is_between : ℕ → ℕ → ℕ → Bool
is_between low high code = nat_le low code && nat_le code high

-- whether each code of a row lies from the low to the high one of its column
abbrev pub inside_row : List ℕ → List ℕ → List ℕ → List Bool
inside_row lows highs codes = map (λ p. is_between p.1.0 p.1.1 p.0) (zip codes (zip lows highs))

-- the same, row by row
abbrev pub inside_rows : List (List ℕ) → List (List ℕ) → List (List ℕ) → List (List Bool)
inside_rows lows highs rows = map (λ p. inside_row p.1.0 p.1.1 p.0) (zip rows (zip lows highs))

-- whether each code of a word lies from the low to the high one of its field, a list for each lane
unfoldable pub inside_of : List ℕ → ℕ → ℕ → ℕ → List (List Bool)
inside_of widths word low high = inside_rows (rows_in widths low) (rows_in widths high) (rows_in widths word)

-- whether one of these is false
abbrev pub lacks : List Bool → Bool
lacks marks = list_any not marks

-- the top bit of each lane whose truth value is true
unfoldable pub tops_where : List ℕ → List Bool → ℕ
tops_where widths lanes = stacked (lane_bits widths) (map (λ lane. if lane then 2 ^ (lane_bits widths - 1) else 0) lanes)
