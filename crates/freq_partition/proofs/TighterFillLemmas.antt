-- Classes filled in rising order are a candidate, or some sizes of less width cost no more.
use Rattle.std.proofs.Common.{ℕ, zero, suc, ◌+◌, ◌-◌, ◌*◌, ◌^◌, ◌≤◌, ◌<◌, ◌≡◌, ◌⊎◌, List, [], ◌∷◌, drop, length, map, sum, inl, inr, arith, le_refl, length-drop, take_all, mul-le-mul_right}
use Rattle.std.proofs.lemmas.Bool.{cases_lt}
use Rattle.std.proofs.lemmas.List.{drop_all}
use Rattle.blink_lists.specs.Widths.{width_for}
use Rattle.blink_lists.specs.declared.limits.TheConstants.{MOST_WIDTH}
use Rattle.freq_partition.specs.Division.{cost_of, sizes_of, fronts}
use Rattle.freq_partition.specs.declared.candidate.TheConstants.{CLASS_COST}
use Rattle.blink_lists.proofs.SumLemmas.{sum-cons}
use Rattle.blink_lists.proofs.WidthLemmas.{width_for-le, width_for-pow}
use Rattle.freq_partition.proofs.FillLemmas.{fill, room, RisesFrom, fill-drop}
use Rattle.freq_partition.proofs.BestLemmas.{no_front, front-cons}
use Rattle.blink_lists.proofs.MemberLemmas.{Among}

-- a candidate that costs no more
pub record HasFront (more least cost : ℕ) (counts : List ℕ) : Type 0 where
  pub front : List ℕ
  pub among : Among front (fronts more least (length counts))
  pub costs : cost_of (sizes_of front (length counts)) counts ≤ cost

-- sizes of less width in all that cost no more
pub record HasTighter (classes width cost : ℕ) (counts : List ℕ) : Type 0 where
  pub sizes : List ℕ
  pub all : sum sizes ≡ length counts
  pub few : length sizes ≤ classes
  pub tighter : sum (map width_for sizes) < width
  pub costs : cost_of sizes counts ≤ cost

-- all in one class costs no more than a filling whose first class holds all
one_class_costs : (w : ℕ) (ws counts : List ℕ) → 1 ≤ w → length counts ≤ 2 ^ w → cost_of (length counts ∷ []) counts ≤ fill (w ∷ ws) counts
one_class_costs w ws counts low holds =
    let narrow = mul-le-mul_right (sum counts) (width_for-le (length counts) w low holds) in
    rw (take_all (length counts) counts (le_refl _), take_all (2 ^ w) counts holds) (omega arith)

-- more counts cost at least the least width each, and one class
least_costs : (v w : ℕ) (ws counts : List ℕ) → RisesFrom v (w ∷ ws) → length counts ≤ room (w ∷ ws) → v * sum counts + CLASS_COST ≤ fill (w ∷ ws) counts
least_costs v w ws counts rises covers =
    let all = fill-drop v (length counts) (w ∷ ws) counts rises covers in
    let rest = rw (take_all (length counts) counts (le_refl _), drop_all (length counts) counts (le_refl _)) at all in
    omega arith

-- a class too wide for what is left, and the rest in one class
two_classes : (w : ℕ) (ws counts : List ℕ) → 1 ≤ w → w ≤ MOST_WIDTH → RisesFrom w ws → 2 ^ w < length counts → length counts ≤ 2 ^ w + room ws → width_for (length counts - 2 ^ w) < w → HasTighter (suc (length ws)) (sum (w ∷ ws)) (fill (w ∷ ws) counts) counts
two_classes w [] counts low high rises more covers narrow = absurd (omega arith)
two_classes w (v ∷ ws) counts low high rises more covers narrow =
    let m = length counts - 2 ^ w in
    let left : length (drop (2 ^ w) counts) ≡ m = length-drop (2 ^ w) counts in
    let exact = width_for-pow w low high in
    let rest = least_costs (width_for m) v ws (drop (2 ^ w) counts) (omega arith, rises.1, rises.2) (omega arith) in
    record {
      sizes = 2 ^ w ∷ m ∷ [];
      all = rw (sum-cons (2 ^ w) (m ∷ []), sum-cons m []) (omega arith);
      few = omega arith;
      tighter = rw (sum-cons (width_for (2 ^ w)) (width_for m ∷ []), sum-cons (width_for m) [], exact, sum-cons w (v ∷ ws), sum-cons v ws) (omega arith);
      costs = rw (exact, take_all m (drop (2 ^ w) counts) (omega arith)) (omega arith);
    }

-- the first class full, and behind it what costs no more
in_front : (more least w : ℕ) (ws counts : List ℕ) → 1 ≤ w → least ≤ w → w ≤ MOST_WIDTH → 2 ^ w < length counts → w ≤ width_for (length counts - 2 ^ w) → HasFront more w (fill ws (drop (2 ^ w) counts)) (drop (2 ^ w) counts) → HasFront (suc more) least (fill (w ∷ ws) counts) counts
in_front more least w ws counts positive low high left last rest =
    let n : length (drop (2 ^ w) counts) ≡ length counts - 2 ^ w = length-drop (2 ^ w) counts in
    let exact = width_for-pow w positive high in
    record {
      front = w ∷ rest.front;
      among = front-cons more least (length counts) w rest.front low high left last (rw n at rest.among);
      costs = rw exact (let h = rw n at rest.costs in omega arith);
    }

-- the first class full, and behind it sizes of less width
in_tighter : (classes w : ℕ) (ws counts : List ℕ) → 1 ≤ w → w ≤ MOST_WIDTH → 2 ^ w < length counts → HasTighter classes (sum ws) (fill ws (drop (2 ^ w) counts)) (drop (2 ^ w) counts) → HasTighter (suc classes) (sum (w ∷ ws)) (fill (w ∷ ws) counts) counts
in_tighter classes w ws counts positive high left rest =
    let n : length (drop (2 ^ w) counts) ≡ length counts - 2 ^ w = length-drop (2 ^ w) counts in
    let exact = width_for-pow w positive high in
    record {
      sizes = 2 ^ w ∷ rest.sizes;
      all = rw (sum-cons (2 ^ w) rest.sizes) (let h = rest.all in omega arith);
      few = let h = rest.few in omega arith;
      tighter = rw (sum-cons (width_for (2 ^ w)) (map width_for rest.sizes), exact, sum-cons w ws) (let h = rest.tighter in omega arith);
      costs = rw exact (let h = rest.costs in omega arith);
    }

-- a filling in rising order gives a candidate, or sizes of less width
pub tighten : (more least : ℕ) (ws counts : List ℕ) → 1 ≤ least → RisesFrom least ws → length ws ≤ suc more → 1 ≤ length counts → length counts ≤ room ws → HasFront more least (fill ws counts) counts ⊎ HasTighter (length ws) (sum ws) (fill ws counts) counts
tighten more least [] counts positive rises few some covers = absurd (omega arith)
tighten zero least (w ∷ v ∷ ws) counts positive rises few some covers = absurd (omega arith)
tighten zero least (w ∷ []) counts positive rises few some covers =
    inl (record { front = []; among = no_front zero least (length counts); costs = one_class_costs w [] counts (omega arith) (omega arith) })
tighten (suc more) least (w ∷ ws) counts positive rises few some covers = elim (cases_lt (2 ^ w) (length counts)) [
  | inr fits ↦ inl (record { front = []; among = no_front (suc more) least (length counts); costs = one_class_costs w ws counts (omega arith) fits })
  | inl left ↦ elim (cases_lt (width_for (length counts - 2 ^ w)) w) [
    | inl narrow ↦ inr (two_classes w ws counts (omega arith) rises.1 rises.2 left covers narrow)
    | inr last ↦
        let n : length (drop (2 ^ w) counts) ≡ length counts - 2 ^ w = length-drop (2 ^ w) counts in
        elim (tighten more w ws (drop (2 ^ w) counts) (omega arith) rises.2 (omega arith) (omega arith) (omega arith)) [
          | inl f ↦ inl (in_front more least w ws counts (omega arith) rises.0 rises.1 left last f)
          | inr t ↦ inr (in_tighter (length ws) w ws counts (omega arith) rises.1 left t)
        ]
  ]
]
