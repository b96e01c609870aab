-- Worked sets, as facts that compute. Source: this project's own.
use Rattle.std.specs.Prelude.{◌≡◌, [], ◌∷◌, true, false}
use Rattle.page_synopsis.specs.Runs.{runs_of, is_narrow}
use Rattle.page_synopsis.specs.BitSets.{codes_set}

-- eight runs are narrow, nine are wide
abbrev pub SetsTold : Type 0
SetsTold =
    (codes_set (true ∷ true ∷ false ∷ true ∷ []) ≡ 0 ∷ 1 ∷ 3 ∷ [])
    × (runs_of (0 ∷ 1 ∷ 2 ∷ 5 ∷ 7 ∷ 8 ∷ []) ≡ record { low = 0; high = 2 } ∷ record { low = 5; high = 5 } ∷ record { low = 7; high = 8 } ∷ [])
    × (is_narrow (0 ∷ 2 ∷ 4 ∷ 6 ∷ 8 ∷ 10 ∷ 12 ∷ 14 ∷ []) ≡ true)
    × (is_narrow (0 ∷ 2 ∷ 4 ∷ 6 ∷ 8 ∷ 10 ∷ 12 ∷ 14 ∷ 16 ∷ []) ≡ false)
