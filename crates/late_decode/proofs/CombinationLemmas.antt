-- How many combinations groups of rows have.
use Rattle.std.proofs.Common.{◌≡◌, ℕ, zero, suc, ◌+◌, ◌≤◌, ◌<◌, Bool, List, [], ◌∷◌, map, length, sum_by, max, fold, slice_index_or, refl, sym, ◌∙◌, arith}
use Rattle.std.proofs.lemmas.List.Sums.{sum_by-cons}
use Rattle.std.proofs.lemmas.List.Concat.{length-flat_map}
use Rattle.blink_base.specs.Values.{same_row}
use Rattle.blink_lists.specs.Lists.{once_each, numbers_from}
use Rattle.blink_lists.proofs.RearrangementLemmas.{length-rearranged}
use Rattle.blink_lists.specs.Groups.{IsSame, with_key}
use Rattle.blink_lists.proofs.GroupLemmas.{groups_rearrange}
use Rattle.late_decode.specs.declared.plan.Measure.{Measure}
use Rattle.late_decode.specs.declared.plan.Part.{Part}
use Rattle.late_decode.specs.Parts.{Picked, no_part, parts_over}
use Rattle.late_decode.specs.Groups.{grouped}
use Rattle.late_decode.specs.Bounds.{counted_at}
use Rattle.late_decode.specs.Combinations.{CombinationsCounted}
use Rattle.blink_base.proofs.LineLemmas.{tells_rows}

map-length : {X Y : Type 0} (f : X → Y) (xs : List X) → length (map f xs) ≡ length xs
map-length f [] = refl
map-length f (x ∷ xs) = let l = map-length f xs in omega arith

-- each part of some rows counts them
part_counts : (measures : List Measure) (rows : List Picked) (k : ℕ) → k < length measures → (slice_index_or (parts_over measures rows) k no_part).count ≡ length rows
part_counts [] rows k lt = absurd (omega (arith, lt))
part_counts (m ∷ ms) rows zero lt = refl
part_counts (m ∷ ms) rows (suc k) lt = part_counts ms rows k (omega (arith, lt))

-- all of some numbers are one
greatest_one : (f : ℕ → ℕ) (n : ℕ) (count from bound : ℕ) (acc : ℕ) → acc ≤ n → ((k : ℕ) → k < bound → f k ≡ n) → from + count ≤ bound → 1 ≤ count → fold max acc (map f (numbers_from from count)) ≡ n
greatest_one f n zero from bound acc le same fits some = absurd (omega (arith, some))
greatest_one f n (suc zero) from bound acc le same fits some = let here = same from (omega (arith, fits)) in omega (arith, le, here)
greatest_one f n (suc (suc count)) from bound acc le same fits some =
    let here = same from (omega (arith, fits)) in
    greatest_one f n (suc count) (from + 1) bound (max acc (f from)) (omega (arith, le, here)) same (omega (arith, fits)) (omega arith)

module _ {X K : Type 0} (eq : K → K → Bool) (s : IsSame eq) (measures : List Measure) (key : X → K) (picked : X → Picked) (rows : List X) where
  counted_keys : (ks : List K) (k : ℕ) → k < length measures
      → counted_at (map (λ j. (j, parts_over measures (map picked (with_key eq key rows j)))) ks) k ≡ sum_by (λ j. length (with_key eq key rows j)) ks
  counted_keys [] k lt = refl
  counted_keys (j ∷ ks) k lt =
      let first : (slice_index_or (parts_over measures (map picked (with_key eq key rows j))) k no_part).count ≡ length (with_key eq key rows j) = part_counts measures (map picked (with_key eq key rows j)) k lt ∙ map-length picked (with_key eq key rows j) in
      sum_by-cons (λ (group : K × List Part). (slice_index_or group.1 k no_part).count) (j, parts_over measures (map picked (with_key eq key rows j))) (map (λ i. (i, parts_over measures (map picked (with_key eq key rows i)))) ks)
      ∙ (λ i. first i + counted_keys ks k lt i) ∙ sym (sum_by-cons (λ i. length (with_key eq key rows i)) j ks)

  counted_rows : (k : ℕ) → k < length measures → counted_at (grouped eq measures key picked rows) k ≡ length rows
  counted_rows k lt =
      counted_keys (once_each eq (map key rows)) k lt ∙ sym (length-flat_map (with_key eq key rows) (once_each eq (map key rows))) ∙ sym (length-rearranged (groups_rearrange eq s key rows))

pub combinations_counted : CombinationsCounted
combinations_counted m ms key picked rows =
    greatest_one (counted_at (grouped same_row (m ∷ ms) key picked rows)) (length rows) (length (m ∷ ms)) 0 (length (m ∷ ms)) 0 (omega arith)
    (counted_rows same_row tells_rows (m ∷ ms) key picked rows) (omega arith) (omega arith)
