-- Ranked values taken piece by piece.
use Rattle.std.proofs.Common.{◌≡◌, ◌≤◌, ◌<◌, ℕ, ◌+◌, List, [], ◌∷◌, ◌++◌, map, take, drop, length, get_or, slice_get, Some, sum, sym, ap, ◌∙◌, arith}
use Rattle.std.proofs.lemmas.List.{append_assoc, length-drop}
use Rattle.std.proofs.lemmas.List.Sums.{sum_by-cons}
use Rattle.blink_lists.specs.Lists.{in_order}
use Rattle.blink_base.specs.declared.value.Value.{Value}
use Rattle.blink_base.specs.Values.{value_cmp}
use Rattle.blink_histogram.specs.Ranks.{Counted}
use Rattle.column_classes.specs.ColumnClasses.{classes_by}
use Rattle.blink_lists.proofs.SliceLemmas.{take-map, drop-map, drop-next}

module _ (it : List Counted) (rest : List ℕ) (left : List Counted) (n : ℕ) (found : map (slice_get it) rest ≡ map Some left) where
  pub front_found : (piece : List ℕ) → piece ≡ take n rest → map (slice_get it) piece ≡ map Some (take n left)
  front_found piece e = ap (map (slice_get it)) e ∙ take-map (slice_get it) n rest ∙ ap (take n) found ∙ sym (take-map (λ (c : Counted). Some c) n left)

  pub back_found : (behind : List ℕ) → behind ≡ drop n rest → map (slice_get it) behind ≡ map Some (drop n left)
  back_found behind e = ap (map (slice_get it)) e ∙ drop-map (slice_get it) n rest ∙ ap (drop n) found ∙ sym (drop-map (λ (c : Counted). Some c) n left)

pub sums_left : (sizes rest behind : List ℕ) (i : ℕ) → i < length sizes → sum (drop i sizes) ≤ length rest → behind ≡ drop (get_or sizes i 0) rest → sum (drop (i + 1) sizes) ≤ length behind
sums_left sizes rest behind i lt enough e =
    let next = ap sum (drop-next sizes i lt) ∙ sum_by-cons (λ n. n) (get_or sizes i 0) (drop (i + 1) sizes) in
    let n = ap length e ∙ length-drop (get_or sizes i 0) rest in
    omega arith

pub classes_more : (sizes : List ℕ) (values left : List Counted) (classes more : List (List Value)) (class : List Value) (i : ℕ) → i < length sizes → classes ++ classes_by left (drop i sizes) ≡ classes_by values sizes
    → class ≡ in_order value_cmp (map (λ (c : Counted). c.0) (take (get_or sizes i 0) left)) → more ≡ classes ++ class ∷ [] → more ++ classes_by (drop (get_or sizes i 0) left) (drop (i + 1) sizes) ≡ classes_by values sizes
classes_more sizes values left classes more class i lt whole here pushed =
    ap (λ l. l ++ classes_by (drop (get_or sizes i 0) left) (drop (i + 1) sizes)) pushed
    ∙ append_assoc classes (class ∷ []) (classes_by (drop (get_or sizes i 0) left) (drop (i + 1) sizes))
    ∙ ap (λ c. classes ++ c ∷ classes_by (drop (get_or sizes i 0) left) (drop (i + 1) sizes)) here
    ∙ sym (ap (λ l. classes ++ classes_by left l) (drop-next sizes i lt)) ∙ whole
