-- The codes of a class whose values are keys, and the places of these keys. Source: after Raman et al., ICDE 2008 (star joins on codes).
use Rattle.std.specs.Prelude.{ℕ, List, map, Option}
use Rattle.blink_base.specs.declared.value.Value.{Value}
use Rattle.order_codes.specs.Dictionary.{codes_where}
use Rattle.code_join.specs.Keys.{Keyed, is_key, place_of_key}

-- per code of a class the place of its value among the keys
abbrev pub places_in : Keyed → List Value → List (Option ℕ)
places_in keys values = map (place_of_key keys) values

-- the codes of a class whose values are keys, rising
abbrev pub key_codes : Keyed → List Value → List ℕ
key_codes keys values = codes_where (is_key keys) values
