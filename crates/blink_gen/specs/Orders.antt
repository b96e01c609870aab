-- The orders of a demonstration, drawn from a seed. Source: this project's own; the columns are after the star schema benchmark (O'Neil et al., TPCTC 2009).
use Rattle.std.specs.Prelude.{ℕ, ◌+◌, ◌-◌, ◌*◌, ◌/◌, ◌%◌, min, [], ◌∷◌}
use Rattle.blink_gen.specs.declared.order.Order.{Order}
use Rattle.blink_gen.specs.Generator.{state_after, drawn_below}
use Rattle.blink_gen.specs.Records.{Bytes, numbers_record}

-- the key of a month by how many stand before it, of which the first is January 1992: four digits of the year, two of the month
abbrev pub month_key : ℕ → ℕ
month_key k = (1992 + k / 12) * 100 + (k % 12 + 1)

-- the order of a number, drawn behind a state: of two customers and of two parts the lesser, and then its month, quantity, discount and price
abbrev pub drawn_order : ℕ → ℕ → Order
drawn_order number x = record {
  number = number;
  customer = 1 + min (drawn_below 200 1 x) (drawn_below 200 2 x);
  part = 1 + min (drawn_below 100 3 x) (drawn_below 100 4 x);
  date = month_key (drawn_below 84 5 x);
  quantity = 1 + drawn_below 50 6 x;
  discount = drawn_below 11 7 x;
  price = 100 + drawn_below 1000 8 x;
  revenue = (100 + drawn_below 1000 8 x) * (100 - drawn_below 11 7 x);
}

-- the record of an order
abbrev pub order_record : Order → Bytes
order_record o = numbers_record (o.number ∷ o.customer ∷ o.part ∷ o.date ∷ o.quantity ∷ o.discount ∷ o.price ∷ o.revenue ∷ [])

-- the record of the order behind k others: they are numbered from 1, and eight numbers are drawn for each
abbrev pub record_behind : ℕ → ℕ → Bytes
record_behind seed k = order_record (drawn_order (k + 1) (state_after (8 * k) seed))
