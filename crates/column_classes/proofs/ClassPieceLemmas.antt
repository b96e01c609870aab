-- A list in pieces, and classes made of pieces.
use Rattle.std.proofs.Common.{◌≡◌, ℕ, suc, ◌≤◌, Bool, true, not, ◌&&◌, List, [], ◌∷◌, map, length, sum, take, drop, nat_le, refl, sym, ap, ◌∙◌, subst, arith}
use Rattle.std.specs.List.{list_all}
use Rattle.std.proofs.lemmas.Bool.{and_parts, and_from, le-leb, leb-true}
use Rattle.std.proofs.lemmas.List.{length-map, map-append, take-append-drop, length-take-le, length-drop}
use Rattle.blink_lists.specs.Lists.{in_order, rises, are_distinct, joined}
use Rattle.blink_lists.specs.Rearrangement.{Rearranged}
use Rattle.blink_lists.specs.Rearrangement.Rearranged.{none, followed}
use Rattle.blink_lists.proofs.RearrangementLemmas.{in_front, behind, length-rearranged}
use Rattle.blink_base.specs.declared.value.Value.{Value}
use Rattle.blink_base.specs.Values.{value_cmp, same_value}
use Rattle.blink_base.specs.ValueOrder.{value_total}
use Rattle.blink_histogram.specs.Ranks.{Counted}
use Rattle.order_codes.specs.Dictionary.{is_class}
use Rattle.blink_lists.specs.declared.limits.TheConstants.{MOST_ROWS}
use Rattle.blink_lists.proofs.DistinctLemmas.{distinct-append, meet}
use Rattle.blink_lists.proofs.SumLemmas.{sum-cons}
use Rattle.column_classes.specs.ColumnClasses.{in_pieces}
use Rattle.blink_lists.proofs.OrderLemmas.{rearranged-in_order}
use Rattle.blink_lists.proofs.RisingLemmas.{rises-in_order}

module _ {X : Type 0} where
  pub length-in_pieces : (sizes : List ℕ) (xs : List X) → length (in_pieces sizes xs) ≡ length sizes
  length-in_pieces [] xs = refl
  length-in_pieces (n ∷ sizes) xs = ap suc (length-in_pieces sizes (drop n xs))

  -- the pieces one after another are the list
  pub joined-in_pieces : (sizes : List ℕ) (xs : List X) → sum sizes ≡ length xs → joined (in_pieces sizes xs) ≡ xs
  joined-in_pieces [] [] all = refl
  joined-in_pieces [] (x ∷ xs) all = absurd (omega arith)
  joined-in_pieces (n ∷ sizes) xs all =
      let whole = sum-cons n sizes in
      let left : sum sizes ≡ length (drop n xs) = rw (length-drop n xs) (omega arith) in
      rw (joined-in_pieces sizes (drop n xs) left) (take-append-drop n xs)

  -- a piece has an element, and at most so many
  abbrev pub is_piece : ℕ → List X → Bool
  is_piece most piece = nat_le 1 (length piece) && nat_le (length piece) most

  pub all_pieces : (most : ℕ) (sizes : List ℕ) (xs : List X) → length xs ≤ most → list_all (nat_le 1) sizes ≡ true → sum sizes ≡ length xs → list_all (is_piece most) (in_pieces sizes xs) ≡ true
  all_pieces most [] xs few each all = refl
  all_pieces most (n ∷ sizes) xs few each all =
      let parts = and_parts (nat_le 1 n) (list_all (nat_le 1) sizes) each in
      let some = leb-true 1 n parts.0 in
      let whole = sum-cons n sizes in
      let here = length-take-le n xs (omega arith) in
      let dropped = length-drop n xs in
      and_from (is_piece most (take n xs)) (list_all (is_piece most) (in_pieces sizes (drop n xs)))
      (and_from (nat_le 1 (length (take n xs))) (nat_le (length (take n xs)) most) (le-leb _ _ (omega arith)) (le-leb _ _ (omega arith)))
      (all_pieces most sizes (drop n xs) (omega arith) parts.1 (omega arith))

-- the values of a piece in order
abbrev pub class_of_piece : List Counted → List Value
class_of_piece piece = in_order value_cmp (map (λ c. c.0) piece)

-- classes have the values of their pieces
pub pieces-joined : (pieces : List (List Counted)) → Rearranged (map (λ c. c.0) (joined pieces)) (joined (map class_of_piece pieces))
pieces-joined [] = none
pieces-joined (piece ∷ pieces) =
    subst (λ l. Rearranged l (joined (map class_of_piece (piece ∷ pieces)))) (sym (map-append (λ (c : Counted). c.0) piece (joined pieces)))
    (followed (behind (map (λ c. c.0) (joined pieces)) (rearranged-in_order value_cmp (map (λ c. c.0) piece))) (in_front (class_of_piece piece) (pieces-joined pieces)))

-- and rise
pub all_classes_of : (pieces : List (List Counted)) → list_all (is_piece MOST_ROWS) pieces ≡ true → are_distinct same_value (map (λ c. c.0) (joined pieces)) ≡ true → list_all is_class (map class_of_piece pieces) ≡ true
all_classes_of [] each apart = refl
all_classes_of (piece ∷ pieces) each apart =
    let parts = and_parts (is_piece MOST_ROWS piece) (list_all (is_piece MOST_ROWS) pieces) each in
    let sized = and_parts (nat_le 1 (length piece)) (nat_le (length piece) MOST_ROWS) parts.0 in
    let values = map (λ (c : Counted). c.0) piece in
    let rest = map (λ (c : Counted). c.0) (joined pieces) in
    let split = rw (map-append (λ (c : Counted). c.0) piece (joined pieces)) at apart in
    let both = and_parts (are_distinct same_value values) (are_distinct same_value rest && not (meet same_value values rest)) (sym (distinct-append same_value values rest) ∙ split) in
    let long : length (class_of_piece piece) ≡ length piece = sym (length-rearranged (rearranged-in_order value_cmp values)) ∙ length-map piece (λ (c : Counted). c.0) in
    and_from (is_class (class_of_piece piece)) (list_all is_class (map class_of_piece pieces))
    (and_from (nat_le 1 (length (class_of_piece piece)) && nat_le (length (class_of_piece piece)) MOST_ROWS) (rises value_cmp (class_of_piece piece))
    (rw long (and_from (nat_le 1 (length piece)) (nat_le (length piece) MOST_ROWS) sized.0 sized.1)) (rises-in_order value_cmp value_total values both.0))
    (all_classes_of pieces parts.1 (and_parts (are_distinct same_value rest) (not (meet same_value values rest)) both.1).0)
