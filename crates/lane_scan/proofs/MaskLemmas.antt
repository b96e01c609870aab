-- Numbers whose bits are truth values, one behind the other.
use Rattle.std.proofs.Common.{ℕ, zero, suc, ◌+◌, ◌-◌, ◌*◌, ◌/◌, ◌%◌, ◌^◌, ◌≡◌, ◌≤◌, ◌<◌, ◌==◌, min, refl, sym, ◌∙◌, ap, arith, Bool, true, false, not, cond, List, [], ◌∷◌, ◌++◌, length, get_or, bit_and, bit_or, lit≤}
use Rattle.std.specs.Int.{bit_at, bit_not}
use Rattle.std.specs.Int.Bits.{or_shifted_r}
use Rattle.std.specs.Simd.Lanes.{mask_l}
use Rattle.std.proofs.lemmas.Simd.{mask_l-lt, bit_mask_l}
use Rattle.std.proofs.lemmas.Nat.{mod_below}
use Rattle.std.proofs.lemmas.Nat.Bits.{bit_at_and, bit_at_not, bit_at_ones, bit_at_ones_above, ones_shr}
use Rattle.std.proofs.Math.Nat.{pow-suc, pow-zero, pow-le-pow_right, mod-eq_of_lt}
use Rattle.std.proofs.lemmas.List.{length-append}
use mir.Syntax.{w64}

mask_append : (xs ys : List Bool) → mask_l (xs ++ ys) ≡ mask_l ys * 2 ^ length xs + mask_l xs
mask_append [] ys = let e : 2 ^ zero ≡ 1 = pow-zero 2 in rw e (omega arith)
mask_append (x ∷ xs) ys =
    let e = mask_append xs ys in
    let p : 2 ^ suc (length xs) ≡ 2 ^ length xs * 2 = pow-suc 2 (length xs) in
    rw (p, e) (omega arith)

-- a mask moved behind another
pub mask_or : (xs ys : List Bool) (k : ℕ) → k ≡ length xs → length xs + length ys ≤ 64 → bit_or (mask_l xs) (mask_l ys * 2 ^ k % 2 ^ 64) ≡ mask_l (xs ++ ys)
mask_or xs ys k here room =
    let a = mask_append xs ys in
    let long : length (xs ++ ys) ≤ 64 = omega (arith, length-append xs ys, room) in
    let most : 2 ^ length (xs ++ ys) ≤ 2 ^ 64 = pow-le-pow_right {n = 2} (lit≤ tt) long in
    let all : mask_l (xs ++ ys) < 2 ^ 64 = omega (arith, mask_l-lt (xs ++ ys), most) in
    let small : mask_l ys * 2 ^ length xs < 2 ^ 64 = omega (arith, a, all) in
    ap (λ n. bit_or (mask_l xs) (mask_l ys * 2 ^ n % 2 ^ 64)) here
    ∙ ap (λ v. bit_or (mask_l xs) v) (mod-eq_of_lt small)
    ∙ or_shifted_r (mask_l ys) (length xs) (mask_l xs) (mask_l-lt xs)
    ∙ sym a

mask_fits : (xs : List Bool) → length xs ≤ 64 → mask_l xs < 2 ^ 64
mask_fits xs few = let most : 2 ^ length xs ≤ 2 ^ 64 = pow-le-pow_right {n = 2} (lit≤ tt) few in omega (arith, mask_l-lt xs, most)

-- the first so many bits of a mask, turned round
abbrev pub first_not : List Bool → ℕ → ℕ
first_not bs rows = bit_and (bit_not w64 (mask_l bs)) ((2 ^ 64 - 1) / 2 ^ (64 - rows))

ones_first : (rows : ℕ) → 0 < rows → rows ≤ 64 → (2 ^ 64 - 1) / 2 ^ (64 - rows) ≡ 2 ^ rows - 1
ones_first rows some within = let back : 64 - (64 - rows) ≡ rows = omega arith in ones_shr 64 (64 - rows) (omega arith) ∙ ap (λ k. 2 ^ k - 1) back

turned : (b : Bool) → (min (1 - cond b 1 0) 1 == 1) ≡ not b
turned true = refl
turned false = refl

pub first_not_at : (bs : List Bool) (rows i : ℕ) → length bs ≤ 64 → 0 < rows → rows ≤ 64 → i < rows → (bit_at (first_not bs rows) i == 1) ≡ not (get_or bs i false)
first_not_at bs rows i few some within lt =
    ap (λ n. n == 1) (
    bit_at_and (bit_not w64 (mask_l bs)) ((2 ^ 64 - 1) / 2 ^ (64 - rows)) i
    ∙ ap (λ m. min (bit_at (bit_not w64 (mask_l bs)) i) (bit_at m i)) (ones_first rows some within)
    ∙ ap (λ b. min (bit_at (bit_not w64 (mask_l bs)) i) b) (bit_at_ones rows i lt)
    ∙ ap (λ b. min b 1) (bit_at_not w64 (mask_l bs) i (mask_fits bs few) (omega (arith, lt, within)) ∙ ap (λ b. 1 - b) (bit_mask_l bs i))
    )
    ∙ turned (get_or bs i false)

none_both : (b : ℕ) → (min b 0 == 1) ≡ false
none_both b = let none : min b 0 ≡ 0 = omega arith in ap (λ n. n == 1) none

pub first_not_behind : (bs : List Bool) (rows i : ℕ) → 0 < rows → rows ≤ 64 → rows ≤ i → (bit_at (first_not bs rows) i == 1) ≡ false
first_not_behind bs rows i some within le =
    ap (λ n. n == 1) (
    bit_at_and (bit_not w64 (mask_l bs)) ((2 ^ 64 - 1) / 2 ^ (64 - rows)) i
    ∙ ap (λ m. min (bit_at (bit_not w64 (mask_l bs)) i) (bit_at m i)) (ones_first rows some within)
    ∙ ap (λ b. min (bit_at (bit_not w64 (mask_l bs)) i) b) (bit_at_ones_above rows i le)
    )
    ∙ none_both (bit_at (bit_not w64 (mask_l bs)) i)
