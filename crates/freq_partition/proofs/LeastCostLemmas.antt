-- No sizes cost less than the best division.
use Rattle.std.proofs.Common.{ℕ, zero, suc, ◌≤◌, ◌≡◌, ◌^◌, ◌⊎◌, List, [], ◌∷◌, length, map, sum, true, arith, le_trans, le_refl, inl, inr}
use Rattle.blink_lists.specs.Widths.{width_for}
use Rattle.blink_lists.specs.declared.limits.TheConstants.{MOST_WIDTH}
use Rattle.freq_partition.specs.Division.{IsLeastCost, best_division, cost_of, never_rises, candidates, one_class, divided_by, sizes_of, fronts}
use Rattle.freq_partition.proofs.FillLemmas.{ordered, is_ordered, fill-ordered}
use Rattle.freq_partition.proofs.BestLemmas.{best-cost}
use Rattle.blink_lists.proofs.MemberLemmas.{Among-map}
use Rattle.freq_partition.proofs.TighterFillLemmas.{HasFront, HasTighter, tighten}

-- the next step from sizes: a candidate, or other sizes of less width
from_ordered : (sizes counts : List ℕ) → never_rises counts ≡ true → 1 ≤ length counts → length counts ≤ 2 ^ MOST_WIDTH → length sizes ≤ 4 → sum sizes ≡ length counts → HasFront 3 1 (cost_of sizes counts) counts ⊎ HasTighter 4 (sum (map width_for sizes)) (cost_of sizes counts) counts
from_ordered sizes counts falls some small few all =
    let o = is_ordered sizes (omega arith) in
    let costs = fill-ordered sizes counts falls all small in
    let many = o.as_many in
    let wide = o.as_wide in
    let covers = o.holds in
    elim (tighten 3 1 (ordered sizes) counts (le_refl 1) o.rises (omega arith) some (omega arith)) [
      | inl f ↦ inl (record { front = f.front; among = f.among; costs = le_trans f.costs costs })
      | inr t ↦ inr (record { sizes = t.sizes; all = t.all; few = let h = t.few in omega arith; tighter = let h = t.tighter in omega arith; costs = le_trans t.costs costs })
    ]

-- some candidate costs no more than these sizes: each step leaves less width in all
least_front : (bound : ℕ) (sizes counts : List ℕ) → sum (map width_for sizes) ≤ bound → never_rises counts ≡ true → 1 ≤ length counts → length counts ≤ 2 ^ MOST_WIDTH → length sizes ≤ 4 → sum sizes ≡ length counts → HasFront 3 1 (cost_of sizes counts) counts
least_front zero sizes counts within falls some small few all = elim (from_ordered sizes counts falls some small few all) [
  | inl f ↦ f
  | inr t ↦ absurd (let h = t.tighter in omega arith)
]
least_front (suc bound) sizes counts within falls some small few all = elim (from_ordered sizes counts falls some small few all) [
  | inl f ↦ f
  | inr t ↦
      let f = least_front bound t.sizes counts (let h = t.tighter in omega arith) falls some small t.few t.all in
      record { front = f.front; among = f.among; costs = le_trans f.costs t.costs }
]

-- no sizes cost less than the best division, where the counts are in the order of rank
pub costs_least : (counts : List ℕ) → never_rises counts ≡ true → length counts ≤ 2 ^ MOST_WIDTH → IsLeastCost counts (best_division counts).cost
unfolding candidates
costs_least [] falls small sizes some few each all = omega arith
costs_least (c ∷ counts) falls small sizes some few each all =
    let f = least_front _ sizes (c ∷ counts) (le_refl _) falls (omega arith) small few all in
    let among = Among-map (λ front. divided_by (c ∷ counts) (sizes_of front (length (c ∷ counts)))) f.front (fronts 3 1 (length (c ∷ counts))) f.among in
    le_trans ((best-cost (one_class (c ∷ counts)) (divided_by (c ∷ counts) (sizes_of f.front (length (c ∷ counts)))) (candidates (c ∷ counts))).1 among) f.costs
