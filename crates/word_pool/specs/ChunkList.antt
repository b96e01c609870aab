-- Chunks of 1,024 blocks. Source: this project's own.
use Rattle.std.specs.Prelude.{◌≡◌, List, [], ◌∷◌, flat_map, length}

-- lists one after the other
abbrev pub joined : {X : Type 0} → List (List X) → List X
joined chunks = flat_map (λ chunk. chunk) chunks

-- each chunk has 1,024 blocks
abbrev pub AreWhole : {X : Type 0} → List (List X) → Type 0
AreWhole [] = Unit {0}
AreWhole (chunk ∷ chunks) = (length chunk ≡ 1024) × AreWhole chunks
