-- Worked rounds, as facts that compute. Source: this project's own.
use Rattle.std.specs.Prelude.{◌≡◌, [], ◌∷◌, true, false, map}
use Rattle.masked_compare.specs.declared.round.Round.{Round}
use Rattle.lane_scan.specs.Scan.{rows_of, lies_in_one}

-- codes from 0 to 3 among eight; of four rows of two codes, the first code any and the second 15
abbrev pub RowsTold : Type 0
RowsTold =
    (map (lies_in_one (3 ∷ []) (record { low = 0; high = 0x0303_0303_0303_0303 } ∷ [])) (rows_of (3 ∷ []) (0x0706_0504_0302_0100 ∷ []))
    ≡ true ∷ true ∷ true ∷ true ∷ false ∷ false ∷ false ∷ false ∷ [])
    × (map (lies_in_one (3 ∷ 4 ∷ []) (record { low = 0x00F0_00F0_00F0_00F0; high = 0x00F7_00F7_00F7_00F7 } ∷ [])) (rows_of (3 ∷ 4 ∷ []) (0x0083_00F7_00F0_0007 ∷ []))
    ≡ false ∷ true ∷ true ∷ false ∷ [])
