-- Keys with payload: key values, each with a row of payload values, in the order in which they were put. Source: after Raman et al., ICDE 2008 (star joins by key sets).
use Rattle.std.specs.Prelude.{ℕ, Bool, List, [], find, position, Option, Some, None}
use Rattle.std.specs.Map.{keys_of}
use Rattle.std.specs.Option.{is_some}
use Rattle.blink_base.specs.declared.value.Value.{Value}
use Rattle.blink_base.specs.Values.{Row, same_value}
use Rattle.blink_lists.specs.Lists.{are_distinct}

-- key values, each with a row of payload values
abbrev pub Keyed : Type 0
Keyed = List (Value × Row)

-- the place of a key, counted from 0
abbrev pub place_of_key : Keyed → Value → Option ℕ
place_of_key keys v = position (same_value v) (keys_of keys)

-- whether a value is a key
abbrev pub is_key : Keyed → Value → Bool
is_key keys v = is_some (place_of_key keys v)

-- whether no key stands twice
abbrev pub are_keys : Keyed → Bool
are_keys keys = are_distinct same_value (keys_of keys)

-- the entry of a key
abbrev pub entry_at : Keyed → Value → Option (Value × Row)
entry_at keys v = find (λ e. same_value e.0 v) keys

-- the payload of an entry; no values where there is none
abbrev pub payload_of : Option (Value × Row) → Row
payload_of None = []
payload_of (Some e) = e.1
