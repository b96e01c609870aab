-- What stands in a group's tuple: the code of a column of the fact, or the place of a tied value among the keys of its tie. Source: after Raman et al., ICDE 2008 (star joins and aggregation on codes).
use Rattle.std.specs.Prelude.{ℕ, pos, Bool, List, [], map, length, Option, Some, None, unwrap_or, slice_index_or, slice_get}
use Rattle.std.specs.List.{list_all, zip}
use Rattle.std.specs.Map.{values_of}
use Rattle.blink_base.specs.declared.value.Value.{Value}
use Rattle.blink_base.specs.declared.value.Value.TheVariants.{Int}
use Rattle.blink_base.specs.Values.{Row}
use Rattle.order_codes.specs.Dictionary.{Classes, decoded}
use Rattle.cell_scan.specs.ValueTests.{cell_class}
use Rattle.code_join.specs.Keys.{Keyed, is_key, entry_at, payload_of}
use Rattle.code_join.specs.KeyCodes.{places_in}
use Rattle.late_decode.specs.declared.plan.Pick.{Pick}
use Rattle.late_decode.specs.declared.plan.Pick.TheVariants.{Fact, Dimension}

-- the value of a row in a column
abbrev pub value_at : Row → ℕ → Value
value_at row column = slice_index_or row column (Int (pos 0))

-- the value that a pick has beside a row of the fact; `ties` are the tied columns
abbrev pub picked_beside : List ℕ → List Keyed → Row → Pick → Value
picked_beside ties keys row (Fact column) = value_at row column
picked_beside ties keys row (Dimension tie place) = value_at (payload_of (entry_at (slice_index_or keys tie []) (value_at row (slice_index_or ties tie 0)))) place

-- whether each tied value of a row is a key
abbrev pub has_keys : List ℕ → List Keyed → Row → Bool
has_keys ties keys row = list_all (λ (p : ℕ × Keyed). is_key p.1 (value_at row p.0)) (zip ties keys)

-- per tie, per code of the tied column's class in a cell, the place of its value among the keys
abbrev pub maps_in : List Classes → List ℕ → List ℕ → List Keyed → List (List (Option ℕ))
maps_in columns classes ties keys = map (λ (p : ℕ × Keyed). places_in p.1 (cell_class columns classes p.0)) (zip ties keys)

-- the entry of a pick in a row of a cell
abbrev pub entry_in : List ℕ → List (List (Option ℕ)) → List ℕ → Pick → ℕ
entry_in ties maps codes (Fact k) = slice_index_or codes k 0
entry_in ties maps codes (Dimension tie place) = unwrap_or (slice_index_or (slice_index_or maps tie []) (slice_index_or codes (slice_index_or ties tie 0) 0) None) 0

-- how many entries a pick may have: the size of its column's class in a cell, or the number of its tie's keys
abbrev pub size_in : List Classes → List ℕ → List Keyed → Pick → ℕ
size_in columns classes keys (Fact k) = length (cell_class columns classes k)
size_in columns classes keys (Dimension tie place) = length (slice_index_or keys tie [])

-- the same of several picks
abbrev pub sizes_in : List Classes → List ℕ → List Keyed → List Pick → List ℕ
sizes_in columns classes keys picks = map (size_in columns classes keys) picks

-- the value of a code in a column with its class number, where there is such a column
abbrev pub value_of_code : Option (Classes × ℕ) → ℕ → Value
value_of_code None code = Int (pos 0)
value_of_code (Some column) code = unwrap_or (decoded column.0 column.1 code) (Int (pos 0))

-- the value that an entry stands for
abbrev pub value_of_entry : List Classes → List ℕ → List Keyed → Pick → ℕ → Value
value_of_entry columns classes keys (Fact k) code = value_of_code (slice_get (zip columns classes) k) code
value_of_entry columns classes keys (Dimension tie place) at = value_at (slice_index_or (values_of (slice_index_or keys tie [])) at []) place

-- the tuple of a row: an entry per pick
abbrev pub entries_of : List Classes → List ℕ → List ℕ → List Keyed → List Pick → List ℕ → List ℕ
entries_of columns classes ties keys picks codes = map (entry_in ties (maps_in columns classes ties keys) codes) picks

-- the key that a tuple stands for
abbrev pub key_of_entries : List Classes → List ℕ → List Keyed → List Pick → List ℕ → Row
key_of_entries columns classes keys picks entries = map (λ (p : Pick × ℕ). value_of_entry columns classes keys p.0 p.1) (zip picks entries)
