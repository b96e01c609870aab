-- Worked keys, as facts that compute. Source: this project's own.
use Rattle.std.specs.Prelude.{◌≡◌, pos, [], ◌∷◌, Some, None, true, false}
use Rattle.blink_base.specs.declared.value.Value.TheVariants.{Int}
use Rattle.code_join.specs.Keys.{Keyed, place_of_key, are_keys, entry_at, payload_of}
use Rattle.code_join.specs.KeyCodes.{places_in, key_codes}

-- the keys 7 and 2, each with one value
abbrev pub two_keys : Keyed
two_keys = (Int (pos 7), Int (pos 70) ∷ []) ∷ (Int (pos 2), Int (pos 20) ∷ []) ∷ []

-- places count from 0 in the order of the keys, codes in that of the values
abbrev pub KeysOfClass : Type 0
KeysOfClass =
    (are_keys two_keys ≡ true)
    × (place_of_key two_keys (Int (pos 2)) ≡ Some 1)
    × (payload_of (entry_at two_keys (Int (pos 2))) ≡ Int (pos 20) ∷ [])
    × (entry_at two_keys (Int (pos 5)) ≡ None)
    × (places_in two_keys (Int (pos 2) ∷ Int (pos 5) ∷ Int (pos 7) ∷ []) ≡ Some 1 ∷ None ∷ Some 0 ∷ [])
    × (key_codes two_keys (Int (pos 2) ∷ Int (pos 5) ∷ Int (pos 7) ∷ []) ≡ 0 ∷ 2 ∷ [])
    × (are_keys ((Int (pos 7), []) ∷ (Int (pos 7), []) ∷ []) ≡ false)
