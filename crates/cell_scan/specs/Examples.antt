-- Worked scans, as facts that compute. Source: this project's own.
use Rattle.std.specs.Prelude.{◌≡◌, ℕ, List, [], ◌∷◌, ◌++◌, replicate, take, length, map, true, false}
use Rattle.cell_scan.specs.Match.{CodeSet, match_bits, pages_of, rows_of_page, selected_rows}

-- rows of two codes
abbrev pub two_codes : List (List ℕ)
two_codes = (1 ∷ 0 ∷ []) ∷ (2 ∷ 5 ∷ []) ∷ (1 ∷ 5 ∷ []) ∷ (1 ∷ 6 ∷ []) ∷ []

-- code 1 in the first column, 5 to 7 in the second
abbrev pub two_sets : List CodeSet
two_sets = record { column = 0; codes = 1 ∷ [] } ∷ record { column = 1; codes = 5 ∷ 6 ∷ 7 ∷ [] } ∷ []

-- a row passes where each code is in its set, all rows pass no sets, and nothing passes behind the last row
abbrev pub RowsMatched : Type 0
RowsMatched =
    (take 5 (match_bits two_sets two_codes) ≡ false ∷ false ∷ true ∷ true ∷ false ∷ [])
    × (take 5 (match_bits [] two_codes) ≡ true ∷ true ∷ true ∷ true ∷ false ∷ [])
    × (length (match_bits two_sets two_codes) ≡ 1024)
    × (selected_rows (match_bits two_sets two_codes) two_codes ≡ (1 ∷ 5 ∷ []) ∷ (1 ∷ 6 ∷ []) ∷ [])

-- 1,025 rows are two pages, the second of one row
abbrev pub RowsPaged : Type 0
RowsPaged =
    (map length (pages_of (replicate 1025 (4 ∷ []))) ≡ 1024 ∷ 1 ∷ [])
    × (rows_of_page (replicate 1024 (4 ∷ []) ++ (9 ∷ []) ∷ []) 1 ≡ (9 ∷ []) ∷ [])
