-- The bits of one word.
use Rattle.std.proofs.Common.{◌≡◌, ℕ, zero, suc, ◌+◌, ◌-◌, ◌*◌, ◌/◌, ◌%◌, ◌^◌, ◌<◌, ◌≤◌, ◌==◌, Bool, map, count_by, cond, refl, sym, ap, ◌∙◌, arith, min, bit_and, inl, inr}
use Rattle.std.specs.Int.{bit_at, bit_not, trailing_zeros}
use Rattle.std.specs.Int.RustNames.{count_ones}
use mir.Syntax.{w64}
use native.Mathlib.Nat.{div-mul-le_self}
use native.Mathlib.Nat.{pow-suc}
use lib.Count.{ones_step}
use lib.Pow.{pow_mono, pow_pos}
use Rattle.std.proofs.lemmas.Bool.{cases_lt}
use Rattle.std.proofs.lemmas.List.Sums.{sum_by-cons}
use Rattle.std.proofs.lemmas.Nat.Bits.{bit_at-zero, bit_at-lt, bit_at_lowest, bit_at-suc, bit_at_and, bit_at_not, bit_at_mask_inside, bit_at_mask_below, ones_shl, ones_shr, and_high_mask, bit_at-trailing_zeros, bit_at_above}
use Rattle.blink_lists.specs.Lists.{numbers_from}

-- a word without the bits below one
abbrev pub above : ℕ → ℕ → ℕ
above word low = bit_and word ((2 ^ 64 - 1) * 2 ^ low % 2 ^ 64)

above_at : (word low k : ℕ) → low < 64 → low ≤ k → k < 64 → bit_at (above word low) k ≡ bit_at word k
above_at word low k lt le in64 =
    let small = bit_at-lt word k in
    bit_at_and word ((2 ^ 64 - 1) * 2 ^ low % 2 ^ 64) k
    ∙ ap (λ m. min (bit_at word k) (bit_at m k)) (ones_shl 64 low (omega arith))
    ∙ ap (λ b. min (bit_at word k) b) (bit_at_mask_inside low 64 k le in64) ∙ omega arith

below_at : (word low k : ℕ) → low < 64 → k < low → bit_at (above word low) k ≡ 0
below_at word low k lt under =
    bit_at_and word ((2 ^ 64 - 1) * 2 ^ low % 2 ^ 64) k
    ∙ ap (λ m. min (bit_at word k) (bit_at m k)) (ones_shl 64 low (omega arith))
    ∙ ap (λ b. min (bit_at word k) b) (bit_at_mask_below low 64 k under) ∙ omega arith

above_fits : (word low : ℕ) → low < 64 → word < 2 ^ 64 → above word low < 2 ^ 64
above_fits word low lt fits =
    let e : above word low ≡ word / 2 ^ low * 2 ^ low = ap (λ m. bit_and word m) (ones_shl 64 low (omega arith)) ∙ and_high_mask 64 low (omega arith) word fits in
    let le : word / 2 ^ low * 2 ^ low ≤ word = div-mul-le_self word (2 ^ low) in
    omega (arith, e, le, fits)

pub record IsNext (word low bit : ℕ) : Type 0 where
  pub from : low ≤ bit
  pub within : bit < 64
  pub there : bit_at word bit ≡ 1
  pub least : (k : ℕ) → low ≤ k → k < bit → bit_at word k ≡ 0

pub next_there : (word low : ℕ) → low < 64 → word < 2 ^ 64 → (above word low ≡ 0 → ⊥) → IsNext word low (trailing_zeros w64 (above word low))
next_there word low lt fits some =
    let low_bit = bit_at-trailing_zeros w64 (above word low) (omega (arith, some)) (above_fits word low lt fits) in
    let place : ℕ = trailing_zeros w64 (above word low) in
    let from : low ≤ place = elim (cases_lt place low) [ inl under ↦ absurd (omega (arith, below_at word low place lt under, low_bit.1)) | inr le ↦ le ] in
    record {
      from = from;
      within = low_bit.0;
      there = sym (above_at word low place lt from low_bit.0) ∙ low_bit.1;
      least = λ k le under. sym (above_at word low k lt le (omega (arith, under, low_bit.0))) ∙ low_bit.2 k under;
    }

pub next_nowhere : (word low : ℕ) → low < 64 → word < 2 ^ 64 → above word low ≡ 0 → (k : ℕ) → low ≤ k → bit_at word k ≡ 0
next_nowhere word low lt fits none k le =
    elim (cases_lt k 64) [
      | inl in64 ↦ sym (above_at word low k lt le in64) ∙ ap (λ w. bit_at w k) none ∙ bit_at-zero k
      | inr past ↦ bit_at_above word 64 k fits past
    ]

-- a bit of a word turned round
pub not_clear : (word bit : ℕ) → word < 2 ^ 64 → bit < 64 → bit_at (bit_not w64 word) bit ≡ 0 → bit_at word bit ≡ 1
not_clear word bit fits lt none = let small = bit_at-lt word bit in omega (arith, bit_at_not w64 word bit fits lt, none)

pub not_set : (word bit : ℕ) → word < 2 ^ 64 → bit < 64 → bit_at (bit_not w64 word) bit ≡ 1 → bit_at word bit ≡ 0
not_set word bit fits lt one = let small = bit_at-lt word bit in omega (arith, bit_at_not w64 word bit fits lt, one)

one_or_none : (bit : ℕ) → bit < 2 → cond (bit == 1) 1 0 ≡ bit
one_or_none zero lt = refl
one_or_none (suc zero) lt = refl
one_or_none (suc (suc bit)) lt = absurd (omega arith)

-- as many of the lowest bits of a word are set as it has ones
pub ones_counted : (n word a : ℕ) (set : ℕ → Bool) → word < 2 ^ n → ((i : ℕ) → i < n → set (a + i) ≡ (bit_at word i == 1)) → count_by (λ b. b) (map set (numbers_from a n)) ≡ count_ones word
unfolding count_ones
ones_counted zero word a set fits same = let none : word ≡ 0 = omega (arith, fits) in sym (ap count_ones none)
ones_counted (suc n) word a set fits same =
    let half : word / 2 < 2 ^ n = let p = pow-suc 2 n in omega (arith, p, fits) in
    let first : set a ≡ (word % 2 == 1) = let e : a + 0 ≡ a = omega arith in sym (ap set e) ∙ same 0 (omega arith) ∙ ap (λ b. b == 1) (bit_at_lowest word) in
    let rest = ones_counted n (word / 2) (a + 1) set half (λ i lt. let e : (a + 1) + i ≡ a + suc i = omega arith in ap set e ∙ same (suc i) (omega arith) ∙ ap (λ b. b == 1) (bit_at-suc word i)) in
    sum_by-cons (λ (b : Bool). cond b 1 0) (set a) (map set (numbers_from (a + 1) n))
    ∙ ap (λ b. cond b 1 0 + count_by (λ c. c) (map set (numbers_from (a + 1) n))) first
    ∙ ap (λ m. cond (word % 2 == 1) 1 0 + m) rest
    ∙ ap (λ m. m + count_ones (word / 2)) (one_or_none (word % 2) (omega arith))
    ∙ sym (ones_step word)

pub ones_of : (count : ℕ) → 0 < count → count ≤ 64 → (2 ^ 64 - 1) / 2 ^ (64 - count) ≡ 2 ^ count - 1
ones_of count some within = let back : 64 - (64 - count) ≡ count = omega arith in ones_shr 64 (64 - count) (omega arith) ∙ ap (λ k. 2 ^ k - 1) back

pub mask_of : (low high : ℕ) → low ≤ high → (2 ^ low - 1 ≤ 2 ^ high - 1) × ((2 ^ high - 1) - (2 ^ low - 1) ≡ 2 ^ high - 2 ^ low)
mask_of low high le =
    let more : 2 ^ low ≤ 2 ^ high = pow_mono le in
    let one : 1 ≤ 2 ^ low = pow_pos low in
    (omega arith, omega arith)
