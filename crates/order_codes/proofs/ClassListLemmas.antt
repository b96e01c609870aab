-- Lists of values, one after another.
use Rattle.std.proofs.Common.{◌≡◌, ℕ, zero, suc, ◌<◌, ◌≤◌, true, false, not, ◌&&◌, List, [], ◌∷◌, get_or, length, drop, nat_le, sym, ◌∙◌, arith}
use Rattle.std.specs.List.{list_any, list_all}
use Rattle.std.proofs.lemmas.Bool.{and_parts, not-true, both_ways}
use Rattle.std.proofs.lemmas.List.Folds.{list_any_at}
use Rattle.blink_lists.specs.Lists.{rises, are_distinct, joined}
use Rattle.blink_base.specs.declared.value.Value.{Value}
use Rattle.blink_base.specs.Values.{value_cmp, same_value}
use Rattle.order_codes.proofs.ValueRankLemmas.{held, distinct_rising}
use Rattle.order_codes.specs.Dictionary.{is_class}
use Rattle.blink_lists.specs.declared.limits.TheConstants.{MOST_ROWS}
use Rattle.blink_lists.proofs.DistinctLemmas.{meet, distinct-append, distinct_met, distinct_more}
use Rattle.blink_lists.proofs.AnyLemmas.{any_joined}

-- no value is in two of the lists
pub apart_at : (lists : List (List Value)) (j k : ℕ) (v : Value) → are_distinct same_value (joined lists) ≡ true → j < k → k < length lists
    → list_any (same_value v) (get_or lists j []) ≡ true → list_any (same_value v) (get_or lists k []) ≡ true → ⊥
apart_at [] j k v apart lt within first second = absurd (omega arith)
apart_at (xs ∷ rest) j zero v apart lt within first second = absurd (omega arith)
apart_at (xs ∷ rest) zero (suc k) v apart lt within first second =
    let all = and_parts (are_distinct same_value xs) (are_distinct same_value (joined rest) && not (meet same_value xs (joined rest))) (sym (distinct-append same_value xs (joined rest)) ∙ apart) in
    let none = not-true (meet same_value xs (joined rest)) (and_parts (are_distinct same_value (joined rest)) (not (meet same_value xs (joined rest))) all.1).1 in
    let found = held v xs first in
    let later = any_joined (same_value v) rest ∙ list_any_at (list_any (same_value v)) rest k [] (omega arith) second in
    both_ways (meet same_value xs (joined rest)) none (list_any_at (λ x. list_any (same_value x) (joined rest)) xs found.0 v found.1 (rw (found.2 v) later))
apart_at (xs ∷ rest) (suc j) (suc k) v apart lt within first second =
    let all = and_parts (are_distinct same_value xs) (are_distinct same_value (joined rest) && not (meet same_value xs (joined rest))) (sym (distinct-append same_value xs (joined rest)) ∙ apart) in
    apart_at rest j k v (and_parts (are_distinct same_value (joined rest)) (not (meet same_value xs (joined rest))) all.1).0 (omega arith) (omega arith) first second

pub is_class_rises : (xs : List Value) → is_class xs ≡ true → rises value_cmp xs ≡ true
is_class_rises xs is = (and_parts (nat_le 1 (length xs) && nat_le (length xs) MOST_ROWS) (rises value_cmp xs) is).1

-- the first of the lists, beside the others
pub apart_step : (lists : List (List Value)) (xs : List Value) → 1 ≤ length lists → xs ≡ get_or lists 0 xs → list_all is_class lists ≡ true
    → (meet same_value xs (joined (drop 1 lists)) ≡ true → are_distinct same_value (joined lists) ≡ false)
    × (meet same_value xs (joined (drop 1 lists)) ≡ false → are_distinct same_value (joined (drop 1 lists)) ≡ are_distinct same_value (joined lists))
    × (list_all is_class (drop 1 lists) ≡ true)
apart_step [] xs some is all = absurd (omega arith)
apart_step (ys ∷ rest) xs some is all =
    let parts = and_parts (is_class ys) (list_all is_class rest) all in
    let each = distinct_rising ys (is_class_rises ys parts.0) in (
      λ met. distinct_met same_value ys (joined rest) (rw is at met),
      λ met. sym (distinct_more same_value ys (joined rest) each (rw is at met)),
      parts.1,
    )
