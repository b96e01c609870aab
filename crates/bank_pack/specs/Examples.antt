-- Worked banks, as facts that compute. Source: this project's own.
use Rattle.std.specs.Prelude.{◌≡◌, [], ◌∷◌, map}
use Rattle.bank_pack.specs.Banks.{banks_of, columns_of, tuplet_bits, blocks_for}

-- a field goes into the first bank with room
abbrev pub BanksFilled : Type 0
BanksFilled =
    (map columns_of (banks_of (20 ∷ 10 ∷ 9 ∷ 23 ∷ 7 ∷ [])) ≡ (0 ∷ 1 ∷ []) ∷ (2 ∷ 4 ∷ []) ∷ (3 ∷ []) ∷ [])
    × (map tuplet_bits (banks_of (20 ∷ 10 ∷ 9 ∷ 23 ∷ 7 ∷ [])) ≡ 32 ∷ 32 ∷ 32 ∷ [])
    × (map tuplet_bits (banks_of (1 ∷ [])) ≡ 8 ∷ [])
    × (blocks_for (banks_of (1 ∷ [])) 1025 ≡ 2)
