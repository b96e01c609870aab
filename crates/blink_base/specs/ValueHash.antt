-- What a value feeds a hash: its number or its bytes; equal values are one, and so feed a hash alike. Source: this project's own.
use Rattle.std.proofs.Common.{◌≡◌, true, ap}
use Rattle.std.specs.Hash as fed
use Rattle.std.specs.Hash.{HashWrites}
use Rattle.std.specs.Cmp.{IsEquivalence, Equal-is}
use Rattle.std.proofs.lemmas.Cmp.{eq_by_cmp_equiv}
use Rattle.blink_base.specs.declared.value.Value.{Value}
use Rattle.blink_base.specs.declared.value.Value.TheVariants.{Int, Text, Date}
use Rattle.blink_base.specs.Values.{value_cmp, same_value}
use Rattle.blink_base.specs.ValueOrder.{value_total, value_same}

abbrev pub hashed : Value → HashWrites
hashed (Int n) = fed.i64 n
hashed (Text t) = fed.str t
hashed (Date d) = fed.i64 d

pub value_equiv : IsEquivalence same_value
value_equiv = eq_by_cmp_equiv value_total

pub one_value : (x y : Value) → same_value x y ≡ true → x ≡ y
one_value x y e = value_same x y ((Equal-is (value_cmp x y)).0 e)

pub hashes_alike : (x y : Value) → same_value x y ≡ true → hashed x ≡ hashed y
hashes_alike x y e = ap hashed (one_value x y e)
