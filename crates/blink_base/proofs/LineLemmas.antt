-- The order of lines, and the totals of lists: neither depends on the order in which the elements stand.
use Rattle.std.proofs.Common.{◌≡◌, ℕ, ℤ, pos, ◌+ℤ◌, int_div, Bool, true, false, List, [], ◌∷◌, length, slice_index_or, Option, refl, sym, ap, ◌∙◌, true≢false, arith}
use Rattle.std.specs.Ordering.{int_cmp, is_lt, is_gt, ordering_then, flip_args}
use Rattle.std.specs.declared.cmp.Ordering.{Ordering}
use Rattle.std.specs.declared.cmp.Ordering.TheVariants.{Less, Equal, Greater}
use Rattle.std.specs.Cmp.{IsTotalOrder, Equal-is}
use Rattle.std.specs.Cmp.Lexicographic.{slice_cmp}
use Rattle.std.proofs.lemmas.Cmp.{nat_cmp_total, int_cmp_total, nat_list_cmp_total, on_total, then_total, back_total, lists_total, eq_by_cmp_equiv}
use Rattle.std.proofs.lemmas.Map.Lookups.{exact_signed, exact_bytes}
use Rattle.std.proofs.Math.IntN.{+ℤ_comm, +ℤ_assoc}
use Rattle.blink_lists.specs.Lists.{first_of}
use Rattle.blink_lists.specs.Rearrangement.{Rearranged}
use Rattle.blink_lists.specs.Rearrangement.Rearranged.{none, kept, swapped, followed}
use Rattle.blink_lists.proofs.OrderLemmas.{in_order_rearranged}
use Rattle.blink_lists.proofs.RearrangementLemmas.{length-rearranged}
use Rattle.blink_base.specs.declared.value.Value.{Value}
use Rattle.blink_base.specs.declared.answer.Field.{Field}
use Rattle.blink_base.specs.declared.answer.Field.TheVariants.{Null, Number, Text, Date}
use Rattle.blink_base.specs.Values.{Row, value_cmp, same_row}
use Rattle.blink_base.specs.ValueOrder.{value_total, value_same}
use Rattle.blink_base.specs.Lines.{Line, LineKey, field_rank, field_number, field_bytes, field_cmp, directed, by_item, line_cmp, cut_at, printed_lines, sum_of, over_some, sum_field, average_field, field_if_some, least_field, greatest_field, OrdersLines, LinesInAnyOrder, TotalsInAnyOrder, TellsRows}

both_equal : (a b : Ordering) → ordering_then a b ≡ Equal → (a ≡ Equal) × (b ≡ Equal)
both_equal Less b e = absurd (true≢false (ap is_lt e))
both_equal Equal b e = (refl, e)
both_equal Greater b e = absurd (true≢false (ap is_gt e))

field_total : IsTotalOrder field_cmp
field_total = then_total (on_total field_rank nat_cmp_total) (then_total (on_total field_number int_cmp_total) (on_total field_bytes nat_list_cmp_total))

-- fields that compare as equal are one
field_same : (x y : Field) → field_cmp x y ≡ Equal → x ≡ y
field_same Null Null e = refl
field_same Null (Number m) e = cc
field_same Null (Text u) e = cc
field_same Null (Date d) e = cc
field_same (Number n) Null e = cc
field_same (Number n) (Number m) e = ap Number (exact_signed n m (both_equal (int_cmp n m) Equal e).0)
field_same (Number n) (Text u) e = cc
field_same (Number n) (Date d) e = cc
field_same (Text t) Null e = cc
field_same (Text t) (Number m) e = cc
field_same (Text t) (Text u) e = ap Text (exact_bytes t u e)
field_same (Text t) (Date d) e = cc
field_same (Date c) Null e = cc
field_same (Date c) (Number m) e = cc
field_same (Date c) (Text u) e = cc
field_same (Date c) (Date d) e = ap Date (exact_signed c d (both_equal (int_cmp c d) Equal e).0)

-- lists whose elements compare as equal are one
lists_same : {X : Type 0} (cmp : X → X → Ordering) → ((x y : X) → cmp x y ≡ Equal → x ≡ y) → (xs ys : List X) → slice_cmp cmp xs ys ≡ Equal → xs ≡ ys
lists_same cmp same [] [] e = refl
lists_same cmp same [] (y ∷ ys) e = absurd (true≢false (ap is_lt e))
lists_same cmp same (x ∷ xs) [] e = absurd (true≢false (ap is_gt e))
lists_same cmp same (x ∷ xs) (y ∷ ys) e =
    let parts = both_equal (cmp x y) (slice_cmp cmp xs ys) e in
    rw (same x y parts.0, lists_same cmp same xs ys parts.1) refl

directed_total : {X : Type 0} (falling : Bool) (cmp : X → X → Ordering) → IsTotalOrder cmp → IsTotalOrder (directed falling cmp)
directed_total true cmp o = back_total o
directed_total false cmp o = o

line_total : (keys : List LineKey) → IsTotalOrder (line_cmp keys)
line_total [] = lists_total field_total
line_total (key ∷ keys) = then_total (directed_total key.falling (by_item key.item) (on_total (λ (line : Line). slice_index_or line key.item Null) field_total)) (line_total keys)

line_same : (keys : List LineKey) (x y : Line) → line_cmp keys x y ≡ Equal → x ≡ y
line_same [] x y e = lists_same field_cmp field_same x y e
line_same (key ∷ keys) x y e = line_same keys x y (both_equal (directed key.falling (by_item key.item) x y) (line_cmp keys x y) e).1

pub orders_lines : OrdersLines
orders_lines keys = (line_total keys, line_same keys)

-- lines are printed in one order
printed_lines-rearranged : (keys : List LineKey) (limit : Option ℕ) {xs ys : List Line} → Rearranged xs ys → printed_lines keys limit xs ≡ printed_lines keys limit ys
printed_lines-rearranged keys limit {xs} {ys} r = ap (cut_at limit) (in_order_rearranged (line_cmp keys) (line_total keys) (line_same keys) xs ys r)

-- rows that are told alike are one
row_same : (x y : Row) → slice_cmp value_cmp x y ≡ Equal → x ≡ y
row_same = lists_same value_cmp value_same

same_row-one : (x y : Row) → same_row x y ≡ true → x ≡ y
same_row-one x y e = row_same x y ((Equal-is (slice_cmp value_cmp x y)).0 e)

same_row-itself : (x : Row) → same_row x x ≡ true
same_row-itself x = (eq_by_cmp_equiv (lists_total value_total)).refl x

same_row-back : (x y : Row) → same_row x y ≡ same_row y x
same_row-back x y = (eq_by_cmp_equiv (lists_total value_total)).symm x y

least_field-rearranged : {xs ys : List Value} → Rearranged xs ys → least_field xs ≡ least_field ys
least_field-rearranged {xs} {ys} r = ap (λ vs. field_if_some (first_of vs)) (in_order_rearranged value_cmp value_total value_same xs ys r)

greatest_field-rearranged : {xs ys : List Value} → Rearranged xs ys → greatest_field xs ≡ greatest_field ys
greatest_field-rearranged {xs} {ys} r =
    ap (λ vs. field_if_some (first_of vs)) (in_order_rearranged (flip_args value_cmp) (back_total value_total) (λ x y e. sym (value_same y x e)) xs ys r)

sum_of-rearranged : {xs ys : List ℤ} → Rearranged xs ys → sum_of xs ≡ sum_of ys
sum_of-rearranged none = refl
sum_of-rearranged (kept x r) = ap (λ n. x +ℤ n) (sum_of-rearranged r)
sum_of-rearranged (swapped x y xs) = sym (+ℤ_assoc x y (sum_of xs)) ∙ ap (λ n. n +ℤ sum_of xs) (+ℤ_comm x y) ∙ +ℤ_assoc y x (sum_of xs)
sum_of-rearranged (followed r s) = sum_of-rearranged r ∙ sum_of-rearranged s

-- what is NULL of an empty list alone
over_some-same : {X : Type 0} (f : List X → Field) (xs ys : List X) → f xs ≡ f ys → length xs ≡ length ys → over_some f xs ≡ over_some f ys
over_some-same f [] [] e l = refl
over_some-same f [] (y ∷ ys) e l = absurd (omega (arith, l))
over_some-same f (x ∷ xs) [] e l = absurd (omega (arith, l))
over_some-same f (x ∷ xs) (y ∷ ys) e l = e

sum_field-rearranged : {xs ys : List ℤ} → Rearranged xs ys → sum_field xs ≡ sum_field ys
sum_field-rearranged {xs} {ys} r = over_some-same (λ ns. Number (sum_of ns)) xs ys (ap (λ n. Number n) (sum_of-rearranged r)) (length-rearranged r)

average_field-rearranged : {xs ys : List ℤ} → Rearranged xs ys → average_field xs ≡ average_field ys
average_field-rearranged {xs} {ys} r =
    over_some-same (λ ns. Number (int_div (sum_of ns) (pos (length ns)))) xs ys (λ i. Number (int_div (sum_of-rearranged r i) (pos (length-rearranged r i)))) (length-rearranged r)

pub lines_in_any_order : LinesInAnyOrder
lines_in_any_order keys limit xs ys r = printed_lines-rearranged keys limit r

pub totals_in_any_order : TotalsInAnyOrder
totals_in_any_order = record {
  least = λ xs ys r. least_field-rearranged r;
  greatest = λ xs ys r. greatest_field-rearranged r;
  sum = λ xs ys r. sum_field-rearranged r;
  average = λ xs ys r. average_field-rearranged r;
}

pub tells_rows : TellsRows
tells_rows = record { one = same_row-one; itself = same_row-itself; back = same_row-back }
