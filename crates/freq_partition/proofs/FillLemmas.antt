-- Classes of given widths, each filled as far as the counts reach.
use Rattle.std.proofs.Common.{ℕ, suc, ◌+◌, ◌-◌, ◌*◌, ◌^◌, ◌≤◌, ◌≡◌, List, [], ◌∷◌, take, drop, length, map, sum, true, false, nat_le, inl, inr, refl, sym, ap, arith, le_refl, length-drop, drop-drop, take_all, mul-le-mul_left, mul-le-mul_right, le_of_lt, ◌∙◌}
use Rattle.std.proofs.lemmas.Bool.{cases_Bool, leb-true, leb-false}
use Rattle.std.proofs.lemmas.List.Sums.{sum_by-take-le}
use Rattle.blink_lists.specs.Widths.{width_for}
use Rattle.blink_lists.specs.declared.limits.TheConstants.{MOST_WIDTH}
use Rattle.freq_partition.specs.Division.{cost_of, never_rises}
use Rattle.freq_partition.specs.declared.candidate.TheConstants.{CLASS_COST}
use Rattle.freq_partition.proofs.PrefixSumLemmas.{sum-take-later, never_rises-drop}
use Rattle.blink_lists.proofs.SumLemmas.{sum-cons, sum-take-add}
use Rattle.blink_lists.proofs.WidthLemmas.{width_for-holds, width_for-positive, width_for-most}

-- what classes of these widths cost, each with as many of the counts as it holds
abbrev pub fill : List ℕ → List ℕ → ℕ
fill [] counts = 0
fill (w ∷ ws) counts = w * sum (take (2 ^ w) counts) + CLASS_COST + fill ws (drop (2 ^ w) counts)

-- how many values such classes hold
abbrev pub room : List ℕ → ℕ
room [] = 0
room (w ∷ ws) = 2 ^ w + room ws

-- widths that don't fall, from `least` on
abbrev pub RisesFrom : ℕ → List ℕ → Type 0
RisesFrom least [] = Unit {0}
RisesFrom least (w ∷ ws) = (least ≤ w) × (w ≤ MOST_WIDTH) × RisesFrom w ws

-- the widths with v among them, before the first that is no less
abbrev pub placed : ℕ → List ℕ → List ℕ
placed v [] = v ∷ []
placed v (w ∷ ws) = elim (nat_le v w) [ true ↦ v ∷ w ∷ ws | false ↦ w ∷ placed v ws ]

-- the widths of these sizes, in rising order
abbrev pub ordered : List ℕ → List ℕ
ordered [] = []
ordered (size ∷ sizes) = placed (width_for size) (ordered sizes)

later_costs : (v w a b p q f g : ℕ) → v ≤ w → a + b ≡ p + q → w * q + f ≤ g → v * a + (w * b + CLASS_COST + f) ≤ w * p + CLASS_COST + g
later_costs v w a b p q f g low same rest =
    let most = mul-le-mul_right a low in
    let all = ap (λ x. w * x) same in
    omega arith

-- without its first t counts a filling costs at least so much less
pub fill-drop : (v t : ℕ) (ws counts : List ℕ) → RisesFrom v ws → length counts ≤ room ws → v * sum (take t counts) + fill ws (drop t counts) ≤ fill ws counts
fill-drop v t [] [] rises covers =
    let none = sum_by-take-le (λ (y : ℕ). y) [] t in
    let e : sum (take t []) ≡ 0 = omega arith in
    rw e (omega arith)
fill-drop v t [] (c ∷ cs) rises covers = absurd (omega arith)
fill-drop v t (w ∷ ws) counts rises covers =
    let rest = fill-drop w t ws (drop (2 ^ w) counts) rises.2 (rw length-drop (omega arith)) in
    let e : drop t (drop (2 ^ w) counts) ≡ drop (2 ^ w) (drop t counts) = rw (drop-drop t (2 ^ w) counts, drop-drop (2 ^ w) t counts) (ap (λ k. drop k counts) (omega arith)) in
    let swap : t + 2 ^ w ≡ 2 ^ w + t = omega arith in
    let split : sum (take t counts) + sum (take (2 ^ w) (drop t counts)) ≡ sum (take (2 ^ w) counts) + sum (take t (drop (2 ^ w) counts)) = rw (← (sum-take-add t (2 ^ w) counts), ← (sum-take-add (2 ^ w) t counts), swap) refl in
    later_costs v w _ _ _ _ _ _ rises.0 split (rw e at rest)

first_narrower : (v a b f g : ℕ) → v * b + f ≤ g → v * (a + b) + CLASS_COST + f ≤ v * a + CLASS_COST + g
first_narrower v a b f g h = omega arith

first_wider : (v w a b p q f g : ℕ) → w ≤ v → p + q ≡ a + b → q ≤ a → f ≤ v * q + CLASS_COST + g → w * p + CLASS_COST + f ≤ v * a + CLASS_COST + (w * b + CLASS_COST + g)
first_wider v w a b p q f g low same least rest =
    let all = ap (λ x. w * x) same in
    let over = mul-le-mul_left (v - w) least in
    let e : w + (v - w) ≡ v = omega arith in
    let at_a = ap (λ x. x * a) e in
    let at_q = ap (λ x. x * q) e in
    omega arith

drop_both : (j k : ℕ) (xs : List ℕ) → drop j (drop k xs) ≡ drop k (drop j xs)
drop_both j k xs = rw (drop-drop j k xs, drop-drop k j xs) (ap (λ i. drop i xs) (omega arith))

-- a class put in its order and filled costs no more
pub fill-placed : (v s least : ℕ) (ws counts : List ℕ) → RisesFrom least ws → v ≤ MOST_WIDTH → never_rises counts ≡ true → s ≤ 2 ^ v → length counts ≤ s + room ws → fill (placed v ws) counts ≤ v * sum (take s counts) + CLASS_COST + fill ws (drop s counts)
fill-placed v s least [] counts rises high falls holds covers =
    let part = sum_by-take-le (λ (y : ℕ). y) counts (2 ^ v) in
    let e : take s counts ≡ counts = take_all s counts (omega arith) in
    rw e (let h = mul-le-mul_left v part in omega arith)
fill-placed v s least (w ∷ ws) counts rises high falls holds covers = elim (cases_Bool (nat_le v w)) [
  | inl e ↦ rw (e, placed) (let low = leb-true v w e in
      let rest = fill-drop v (2 ^ v - s) (w ∷ ws) (drop s counts) (low, rises.1, rises.2) (rw length-drop (omega arith)) in
      let whole : s + (2 ^ v - s) ≡ 2 ^ v = omega arith in
      let front : sum (take (2 ^ v) counts) ≡ sum (take s counts) + sum (take (2 ^ v - s) (drop s counts)) = rw (← (sum-take-add s (2 ^ v - s) counts), whole) refl in
      let back : drop (2 ^ v) counts ≡ drop (2 ^ v - s) (drop s counts) = rw (drop-drop (2 ^ v - s) s counts, whole) refl in
      rw (front, back) (first_narrower v _ _ _ _ rest))
  | inr e ↦ rw (e, placed) (let above = leb-false v w e in
      let rest = fill-placed v s w ws (drop (2 ^ w) counts) rises.2 high (never_rises-drop (2 ^ w) counts falls) holds (rw length-drop (omega arith)) in
      let swap : 2 ^ w + s ≡ s + 2 ^ w = omega arith in
      let split : sum (take (2 ^ w) counts) + sum (take s (drop (2 ^ w) counts)) ≡ sum (take s counts) + sum (take (2 ^ w) (drop s counts)) = rw (← (sum-take-add (2 ^ w) s counts), ← (sum-take-add s (2 ^ w) counts), swap) refl in
      let same = drop_both s (2 ^ w) counts in
      first_wider v w _ _ _ _ _ _ (omega arith) split (sum-take-later s (2 ^ w) counts falls) (rw same at rest))
]

pub rises-placed : (v least : ℕ) (ws : List ℕ) → RisesFrom least ws → least ≤ v → v ≤ MOST_WIDTH → RisesFrom least (placed v ws)
rises-placed v least [] rises low high = (low, high, tt)
rises-placed v least (w ∷ ws) rises low high = elim (cases_Bool (nat_le v w)) [
  | inl e ↦ rw (e, placed) (low, high, (leb-true v w e, rises.1, rises.2))
  | inr e ↦ rw (e, placed) (rises.0, rises.1, rises-placed v w ws rises.2 (le_of_lt (leb-false v w e)) high)
]

room-placed : (v : ℕ) (ws : List ℕ) → room (placed v ws) ≡ 2 ^ v + room ws
room-placed v [] = refl
room-placed v (w ∷ ws) = elim (cases_Bool (nat_le v w)) [
  | inl e ↦ rw (e, placed) refl
  | inr e ↦ rw (e, placed) (let h = room-placed v ws in omega arith)
]

length-placed : (v : ℕ) (ws : List ℕ) → length (placed v ws) ≡ suc (length ws)
length-placed v [] = refl
length-placed v (w ∷ ws) = elim (cases_Bool (nat_le v w)) [
  | inl e ↦ rw (e, placed) refl
  | inr e ↦ rw (e, placed) (ap suc (length-placed v ws))
]

sum-placed : (v : ℕ) (ws : List ℕ) → sum (placed v ws) ≡ v + sum ws
sum-placed v [] = sum-cons v []
sum-placed v (w ∷ ws) = elim (cases_Bool (nat_le v w)) [
  | inl e ↦ rw (e, placed) (sum-cons v (w ∷ ws))
  | inr e ↦ rw (e, placed) (rw (sum-cons w (placed v ws), sum-cons w ws) (let h = sum-placed v ws in omega arith))
]

-- sizes in classes of their least widths, filled in rising order
pub record IsOrdered (sizes : List ℕ) : Type 0 where
  pub rises : RisesFrom 1 (ordered sizes)
  pub holds : sum sizes ≤ room (ordered sizes)
  pub as_many : length (ordered sizes) ≡ length sizes
  pub as_wide : sum (ordered sizes) ≡ sum (map width_for sizes)

pub is_ordered : (sizes : List ℕ) → sum sizes ≤ 2 ^ MOST_WIDTH → IsOrdered sizes
is_ordered [] small = record { rises = tt; holds = le_refl 0; as_many = refl; as_wide = refl }
is_ordered (s ∷ sizes) small =
    let cut = sum-cons s sizes in
    let rest = is_ordered sizes (omega arith) in
    let fits = width_for-holds s (omega arith) in
    record {
      rises = rises-placed (width_for s) 1 (ordered sizes) rest.rises (width_for-positive s) (width_for-most s (omega arith));
      holds = rw (room-placed (width_for s) (ordered sizes), cut) (let h = rest.holds in omega arith);
      as_many = length-placed (width_for s) (ordered sizes) ∙ ap suc rest.as_many;
      as_wide = sum-placed (width_for s) (ordered sizes) ∙ (ap (λ x. width_for s + x) rest.as_wide ∙ sym (sum-cons (width_for s) (map width_for sizes)));
    }

pub fill-ordered : (sizes counts : List ℕ) → never_rises counts ≡ true → sum sizes ≡ length counts → length counts ≤ 2 ^ MOST_WIDTH → fill (ordered sizes) counts ≤ cost_of sizes counts
fill-ordered [] counts falls all small = le_refl 0
fill-ordered (s ∷ sizes) counts falls all small =
    let cut = sum-cons s sizes in
    let left : sum sizes ≡ length (drop s counts) = rw length-drop (omega arith) in
    let rest = fill-ordered sizes (drop s counts) (never_rises-drop s counts falls) left (omega arith) in
    let o = is_ordered sizes (omega arith) in
    let here = fill-placed (width_for s) s 1 (ordered sizes) counts o.rises (width_for-most s (omega arith)) falls (width_for-holds s (omega arith)) (let h = o.holds in omega arith) in
    omega arith
