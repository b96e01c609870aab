-- Dictionaries: the classes of a column's values, and the code of a value in its class, which keeps the order. Source: after Raman et al., ICDE 2008 (order-preserving codes within a partition).
use Rattle.std.specs.Prelude.{ℕ, Bool, ◌&&◌, List, [], map, filter, count_by, length, Option, option_map, position, slice_index_or, slice_get, nat_le}
use Rattle.std.specs.List.{list_any, list_all}
use Rattle.std.specs.Ordering.{is_lt}
use Rattle.blink_base.specs.declared.value.Value.{Value}
use Rattle.blink_base.specs.Values.{value_cmp, same_value}
use Rattle.blink_lists.specs.Lists.{rises, are_distinct, joined, numbered}
use Rattle.blink_lists.specs.Widths.{width_for}
use Rattle.order_codes.specs.declared.place.CodePlace.{CodePlace}
use Rattle.blink_lists.specs.declared.limits.TheConstants.{MOST_CLASSES, MOST_ROWS}

-- a column's classes, each a list of values in rising order
abbrev pub Classes : Type 0
Classes = List (List Value)

-- a class has a value, not too many, and they rise strictly
abbrev pub is_class : List Value → Bool
is_class values = nat_le 1 (length values) && nat_le (length values) MOST_ROWS && rises value_cmp values

-- at most four classes, and no value in two
abbrev pub are_classes : Classes → Bool
are_classes classes = nat_le (length classes) MOST_CLASSES && list_all is_class classes && are_distinct same_value (joined classes)

-- the number of smaller values in a class, which is the code of a value in it
abbrev pub below : List Value → Value → ℕ
below values v = count_by (λ x. is_lt (value_cmp x v)) values

-- the values of a class, by its number
abbrev pub class_at : Classes → ℕ → List Value
class_at classes k = slice_index_or classes k []

-- the number of the class that a value is in
abbrev pub class_of : Classes → Value → Option ℕ
class_of classes v = position (λ values. list_any (same_value v) values) classes

-- the class and the code of a value
abbrev pub place_of_value : Classes → Value → Option CodePlace
place_of_value classes v = option_map (λ k. record { class = k; code = below (class_at classes k) v }) (class_of classes v)

-- the value of a code
abbrev pub decoded : Classes → ℕ → ℕ → Option Value
decoded classes k code = slice_get (class_at classes k) code

-- the width of a class
abbrev pub class_width : Classes → ℕ → ℕ
class_width classes k = width_for (length (class_at classes k))

-- the codes of the values of a class that pass a test, rising
abbrev pub codes_where : (Value → Bool) → List Value → List ℕ
codes_where test values = map (λ p. p.0) (filter (λ p. test p.1) (numbered values))
