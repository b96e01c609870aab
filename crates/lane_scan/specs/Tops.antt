-- The top bits of the lanes of words. Source: this project's own.
use Rattle.std.specs.Prelude.{ℕ, ◌-◌, ◌^◌, Bool, nat_le, List, [], ◌∷◌, ◌++◌, map}
use Rattle.std.specs.Simd.Lanes.{digits_l}

-- whether the top bit of each of so many lanes of so many bits is set, word after word
abbrev pub tops_in : ℕ → ℕ → List ℕ → List Bool
tops_in bits lanes [] = []
tops_in bits lanes (w ∷ ws) = map (λ x. nat_le (2 ^ (bits - 1)) x) (digits_l (2 ^ bits) lanes w) ++ tops_in bits lanes ws
