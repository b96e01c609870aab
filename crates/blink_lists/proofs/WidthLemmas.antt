-- The least width that holds a size: what it is, and how it is found step by step.
use Rattle.std.proofs.Common.{ℕ, zero, suc, ◌+◌, ◌-◌, ◌^◌, ◌≤◌, ◌<◌, ◌≡◌, nat_le, inl, inr, arith, refl, le_refl, le_trans, le_antisymm}
use Rattle.std.proofs.Math.Pow.{pow_mono, pow-lt}
use Rattle.std.proofs.lemmas.Bool.{cases_Bool, cases_lt, leb-true, leb-false, le-leb, lt-leb}
use Rattle.blink_lists.specs.Widths.{least_width_from, width_for}
use Rattle.blink_lists.specs.declared.limits.TheConstants.{MOST_WIDTH}

-- the least width from w on
unfoldable pub width_from : ℕ → ℕ → ℕ
width_from w n = least_width_from w n (MOST_WIDTH + 1 - w)

pub width_from_first : (n : ℕ) → width_from 1 n ≡ width_for n
unfolding width_from width_for
width_from_first n = refl

pub width_from_here : (w n : ℕ) → w ≤ MOST_WIDTH → n ≤ 2 ^ w → width_from w n ≡ w
unfolding width_from
width_from_here w n high holds =
    let e : MOST_WIDTH + 1 - w ≡ suc (MOST_WIDTH - w) = omega arith in
    rw e (let t = le-leb n (2 ^ w) holds in rw (t, least_width_from) refl)

pub width_from_next : (w n : ℕ) → w ≤ MOST_WIDTH → 2 ^ w < n → width_from w n ≡ width_from (w + 1) n
unfolding width_from
width_from_next w n high more =
    let e : MOST_WIDTH + 1 - w ≡ suc (MOST_WIDTH + 1 - (w + 1)) = omega arith in
    rw e (let t = lt-leb n (2 ^ w) more in rw (t, least_width_from) refl)

pub width_from_last : (n : ℕ) → width_from (MOST_WIDTH + 1) n ≡ MOST_WIDTH + 1
unfolding width_from
width_from_last n = refl

-- it is at most any width that holds the size
least-le : (from n more w : ℕ) → from ≤ w → n ≤ 2 ^ w → least_width_from from n more ≤ w
least-le from n zero w low holds = low
least-le from n (suc more) w low holds = elim (cases_Bool (nat_le n (2 ^ from))) [
  | inl e ↦ rw (e, least_width_from) low
  | inr e ↦ rw (e, least_width_from) (least-le (from + 1) n more w (above from n w (leb-false n (2 ^ from) e) holds) holds)
]
  where
    above : (from n w : ℕ) → 2 ^ from < n → n ≤ 2 ^ w → from + 1 ≤ w
    above from n w big small = elim (cases_lt from w) [ inl l ↦ omega arith | inr g ↦ absurd (omega (arith, pow_mono g)) ]

-- it holds the size
least-holds : (from n more : ℕ) → n ≤ 2 ^ (from + more) → n ≤ 2 ^ least_width_from from n more
least-holds from n zero h = let P : ℕ → Type 0 = λ k. n ≤ 2 ^ k in let e : from + 0 ≡ from = omega arith in rw e at h
least-holds from n (suc more) h = elim (cases_Bool (nat_le n (2 ^ from))) [
  | inl e ↦ rw (e, least_width_from) (leb-true n (2 ^ from) e)
  | inr e ↦ rw (e, least_width_from) (let s : from + suc more ≡ from + 1 + more = omega arith in least-holds (from + 1) n more (rw s at h))
]

least-from : (from n more : ℕ) → from ≤ least_width_from from n more
least-from from n zero = le_refl from
least-from from n (suc more) = elim (cases_Bool (nat_le n (2 ^ from))) [
  | inl e ↦ rw (e, least_width_from) (le_refl from)
  | inr e ↦ rw (e, least_width_from) (let h = least-from (from + 1) n more in omega arith)
]

pub width_for-le : (n w : ℕ) → 1 ≤ w → n ≤ 2 ^ w → width_for n ≤ w
unfolding width_for
width_for-le n w low holds = least-le 1 n MOST_WIDTH w low holds

pub width_for-holds : (n : ℕ) → n ≤ 2 ^ MOST_WIDTH → n ≤ 2 ^ width_for n
unfolding width_for
width_for-holds n h = least-holds 1 n MOST_WIDTH (le_trans h (pow_mono {i = 23} {j = 24} (omega arith)))

pub width_for-positive : (n : ℕ) → 1 ≤ width_for n
unfolding width_for
width_for-positive n = least-from 1 n MOST_WIDTH

pub width_for-most : (n : ℕ) → n ≤ 2 ^ MOST_WIDTH → width_for n ≤ MOST_WIDTH
width_for-most n h = width_for-le n MOST_WIDTH (omega arith) h

pub width_for-pow : (w : ℕ) → 1 ≤ w → w ≤ MOST_WIDTH → width_for (2 ^ w) ≡ w
width_for-pow w low high = le_antisymm (width_for-le (2 ^ w) w low (le_refl _)) (elim (cases_lt (width_for (2 ^ w)) w) [
  | inl l ↦ absurd (omega (arith, pow-lt l, width_for-holds (2 ^ w) (pow_mono high)))
  | inr g ↦ g
])
