-- Values that were sorted by rank, and their numbers.
use Rattle.std.proofs.Common.{◌≡◌, ℕ, suc, List, [], ◌∷◌, ◌++◌, map, take, zero, length, All, slice_get, Some, is_some, unwrap_or, refl, sym, ap, ◌∙◌, ◌+◌, ◌<◌, arith, true≢false}
use Rattle.std.specs.declared.cmp.Ordering.{Ordering}
use Rattle.std.specs.declared.cmp.Ordering.TheVariants.{Less, Equal, Greater}
use Rattle.std.specs.Ordering.{ordering_then, nat_cmp, is_lt, is_gt}
use Rattle.std.proofs.lemmas.Map.Lookups.{exact_unsigned}
use Rattle.std.proofs.lemmas.List.{length-map, take_more, map-append}
use Rattle.blink_base.specs.Values.{value_cmp}
use Rattle.std.specs.List.Sorted.{IsSorted, IsPermutation}
use Rattle.std.proofs.lemmas.List.Sorted.{IsPermutation-map, All-permutation}
use Rattle.std.proofs.lemmas.List.{get_or-map}
use Rattle.std.proofs.lemmas.Option.{slice_get_within, get_or_from_slice_get}
use Rattle.std.specs.Map.{keys_of, values_of}
use Rattle.std.proofs.lemmas.List.Elements.{All-head, All-tail, All-push}
use Rattle.blink_base.specs.declared.value.Value.{Value}
use Rattle.blink_base.specs.ValueOrder.{value_same}
use Rattle.blink_lists.specs.Lists.{in_order}
use Rattle.blink_lists.proofs.OrderLemmas.{sorted_in_order}
use Rattle.blink_histogram.specs.declared.ranks.Ranking.{Ranking}
use Rattle.blink_histogram.specs.Ranks.{Counted, rank_cmp}
use Rattle.blink_histogram.specs.RankEntry.{counted_in, ranking_cmp, rank_total, HasPlace}

-- what ranks alike is one value with one count
both_equal : (a b : Ordering) → ordering_then a b ≡ Equal → (a ≡ Equal) × (b ≡ Equal)
both_equal Less b e = absurd (true≢false (ap is_lt e))
both_equal Equal b e = (refl, e)
both_equal Greater b e = absurd (true≢false (ap is_gt e))

rank_same : (x y : Counted) → rank_cmp x y ≡ Equal → x ≡ y
rank_same x y e =
    let parts = both_equal (nat_cmp y.1 x.1) (value_cmp x.0 y.0) e in
    let count : x.1 ≡ y.1 = sym (exact_unsigned y.1 x.1 parts.0) in
    let value : x.0 ≡ y.0 = value_same x.0 y.0 parts.1 in
    λ i. (value i, count i)

-- rankings that rise are counted values that rise
sorted-counted : (rankings : List Ranking) → IsSorted ranking_cmp rankings → IsSorted rank_cmp (map counted_in rankings)
sorted-counted [] s k d low high = absurd (omega arith)
sorted-counted (r ∷ rankings) s k d low high =
    let within : k + 1 < length (r ∷ rankings) = rw (length-map (r ∷ rankings) counted_in) at high in
    let here = get_or-map counted_in (r ∷ rankings) k r d (omega arith) in
    let next = get_or-map counted_in (r ∷ rankings) (k + 1) r d within in
    ap (λ (p : Counted × Counted). is_lt (rank_cmp p.0 p.1)) (λ i. (next i, here i)) ∙ s k r low within

-- the value and the count at a place are one entry
entry_at : (counts : List Counted) (i : ℕ) (v : Value) (n : ℕ) → slice_get (keys_of counts) i ≡ Some v → slice_get (values_of counts) i ≡ Some n → slice_get counts i ≡ Some (v, n)
entry_at [] i v n key count = absurd (true≢false (sym (ap is_some key)))
entry_at (c ∷ counts) zero v n key count =
    let value : c.0 ≡ v = ap (λ o. unwrap_or o v) key in
    let number : c.1 ≡ n = ap (λ o. unwrap_or o n) count in
    λ i. Some (value i, number i)
entry_at (c ∷ counts) (suc i) v n key count = entry_at counts i v n key count

-- one more ranking, in the order of the numbers
pub ranking_added : (counts : List Counted) (rankings : List Ranking) (r : Ranking) → map counted_in rankings ≡ take r.number counts → All (HasPlace counts) rankings
    → slice_get (keys_of counts) r.number ≡ Some r.value.now → slice_get (values_of counts) r.number ≡ Some r.count
    → (map counted_in (rankings ++ r ∷ []) ≡ take (r.number + 1) counts) × All (HasPlace counts) (rankings ++ r ∷ [])
ranking_added counts rankings r so_far each key count =
    let place = entry_at counts r.number r.value.now r.count key count in
    let within = slice_get_within counts r.number (counted_in r) place in
    let here = get_or_from_slice_get counts r.number (counted_in r) (counted_in r) place in (
      map-append counted_in rankings (r ∷ []) ∙ ap (λ front. front ++ counted_in r ∷ []) so_far
          ∙ ap (λ c. take r.number counts ++ c ∷ []) (sym here) ∙ sym (take_more counts r.number (counted_in r) within),
      All-push (HasPlace counts) rankings r each place,
    )

-- each number finds its value
places : (counts : List Counted) (rankings : List Ranking) → All (HasPlace counts) rankings → map (slice_get counts) (map (λ r. r.number) rankings) ≡ map Some (map counted_in rankings)
places counts [] all = refl
places counts (r ∷ rankings) all =
    let here = All-head (HasPlace counts) r rankings all in
    let rest = places counts rankings (All-tail (HasPlace counts) r rankings all) in
    rw (here, rest) refl

pub numbers_by_rank : (counts : List Counted) (rankings sorted : List Ranking) → map counted_in rankings ≡ counts → All (HasPlace counts) rankings
    → IsPermutation rankings sorted → IsSorted ranking_cmp sorted → map (slice_get counts) (map (λ r. r.number) sorted) ≡ map Some (in_order rank_cmp counts)
numbers_by_rank counts rankings sorted all each moved rises =
    let there = places counts sorted (All-permutation (HasPlace counts) rankings sorted moved each) in
    let ranked = sorted_in_order rank_cmp rank_total rank_same (map counted_in rankings) (map counted_in sorted) (IsPermutation-map counted_in rankings sorted moved) (sorted-counted sorted rises) in
    there ∙ ap (map Some) (ranked ∙ ap (in_order rank_cmp) all)
