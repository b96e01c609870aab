-- The order of values is total, and equal values are one.
use Rattle.std.proofs.Common.{◌≡◌, refl, ap}
use Rattle.std.specs.declared.cmp.Ordering.{Ordering}
use Rattle.std.specs.declared.cmp.Ordering.TheVariants.{Less, Equal, Greater}
use Rattle.std.specs.Ordering.{int_cmp, ordering_then}
use Rattle.std.specs.Cmp.{IsTotalOrder}
use Rattle.std.proofs.lemmas.Cmp.{nat_cmp_total, int_cmp_total, nat_list_cmp_total, on_total, then_total}
use Rattle.std.proofs.lemmas.Map.Lookups.{exact_signed, exact_bytes}
use Rattle.blink_base.specs.declared.value.Value.{Value}
use Rattle.blink_base.specs.declared.value.Value.TheVariants.{Int, Text, Date}
use Rattle.blink_base.specs.Values.{kind_of, kind_number, number_in, text_in, value_cmp, OrdersValues}

pub value_total : IsTotalOrder value_cmp
value_total =
    then_total (on_total (λ v. kind_number (kind_of v)) nat_cmp_total) (then_total (on_total number_in int_cmp_total) (on_total text_in nat_list_cmp_total))

first_equal : (o : Ordering) → ordering_then o Equal ≡ Equal → o ≡ Equal
first_equal Less e = e
first_equal Equal e = refl
first_equal Greater e = e

pub value_same : (x y : Value) → value_cmp x y ≡ Equal → x ≡ y
value_same (Int n) (Int m) e = ap Int (exact_signed n m (first_equal (int_cmp n m) e))
value_same (Int n) (Text t) e = cc
value_same (Int n) (Date d) e = cc
value_same (Text t) (Int m) e = cc
value_same (Text t) (Text u) e = ap Text (exact_bytes t u e)
value_same (Text t) (Date d) e = cc
value_same (Date c) (Int m) e = cc
value_same (Date c) (Text t) e = cc
value_same (Date c) (Date d) e = ap Date (exact_signed c d (first_equal (int_cmp c d) e))

pub orders_values : OrdersValues
orders_values = (value_total, value_same)
