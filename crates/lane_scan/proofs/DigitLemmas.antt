-- The top bits of the lanes of several words, and those of one word by their places.
use Rattle.std.proofs.Common.{ℕ, zero, suc, ◌+◌, ◌-◌, ◌*◌, ◌/◌, ◌%◌, ◌^◌, ◌≡◌, ◌≤◌, ◌<◌, refl, sym, ◌∙◌, ap, arith, Bool, true, false, leb, cond, List, [], ◌∷◌, ◌++◌, length, map, replicate, get_or, inl, inr, lit≤, lit<, flat_map, if◌then◌else◌}
use Rattle.std.specs.Simd.Lanes.{digits_l, number_l, zip2, Each1, mask_l, top}
use Rattle.std.proofs.lemmas.Simd.{bitmask_splat}
use Rattle.std.proofs.lemmas.Nat.{pow_pos, pow-add, div_below, mul-le, mod_low, shr_high}
use mir.Syntax.{Width, w8, w16, w32}
use mir.Val.{bits, hbits}
use Rattle.std.proofs.Math.Nat.{pow-suc, mul-add-div, mul-add-mod_self_left, pow-zero, div-div-eq-div-mul}
use Rattle.std.proofs.lemmas.Bool.Decides.{leb_tells}
use Rattle.std.proofs.lemmas.List.{map-append}
use Rattle.std.proofs.lemmas.List.Concat.{flat_map-cons}
use Rattle.masked_compare.specs.Words.{stacked}
use Rattle.lane_scan.specs.Tops.{tops_in}

length_digits : (p n x : ℕ) → length (digits_l p n x) ≡ n
length_digits p zero x = refl
length_digits p (suc n) x = ap suc (length_digits p n (x / p))

-- the digits of a number below p ^ k with another above it
digits_two : (p k n x y : ℕ) → 0 < p → x < p ^ k → digits_l p (k + n) (x + p ^ k * y) ≡ digits_l p k x ++ digits_l p n y
digits_two p zero n x y some small =
    let e : p ^ zero ≡ 1 = pow-zero p in
    let x0 : x ≡ 0 = omega (arith, rw e at small) in
    let k : zero + n ≡ n = omega arith in
    rw (k, x0, e) (let a : 0 + 1 * y ≡ y = omega arith in rw a refl)
digits_two p (suc k) n x y some small =
    let e : p ^ suc k ≡ p ^ k * p = pow-suc p k in
    let a : x + p ^ suc k * y ≡ p * (p ^ k * y) + x = rw e (omega arith) in
    let m : (x + p ^ suc k * y) % p ≡ x % p = rw a (mul-add-mod_self_left p (p ^ k * y) x) in
    let d : (x + p ^ suc k * y) / p ≡ x / p + p ^ k * y = rw a (mul-add-div some (p ^ k * y) x ∙ omega arith) in
    let s : suc k + n ≡ suc (k + n) = omega arith in
    let lt : x / p < p ^ k = div_below x p (p ^ k) some (rw e at small) in
    rw (s, m, d, digits_two p k n (x / p) y some lt) refl

-- a number made of its digits
number_digits : (p n x : ℕ) → 0 < p → x < p ^ n → number_l p (digits_l p n x) ≡ x
number_digits p zero x some small = let e : p ^ zero ≡ 1 = pow-zero p in omega (arith, rw e at small)
number_digits p (suc n) x some small =
    let e : p ^ suc n ≡ p ^ n * p = pow-suc p n in
    let lt : x / p < p ^ n = div_below x p (p ^ n) some (rw e at small) in
    rw (number_digits p n (x / p) some lt) (omega arith)

number_lt : (p : ℕ) (ws : List ℕ) → 0 < p → Each1 (λ w. w < p) ws → number_l p ws < p ^ length ws
number_lt p [] some fit = let e : p ^ zero ≡ 1 = pow-zero p in omega arith
number_lt p (w ∷ ws) some fit =
    let e : p ^ suc (length ws) ≡ p ^ length ws * p = pow-suc p (length ws) in
    let m = number_lt p ws some fit.1 in
    let g : (number_l p ws + 1) * p ≤ p ^ length ws * p = mul-le (number_l p ws + 1) p (p ^ length ws) p (omega arith) (omega arith) in
    omega (arith, fit.0)

-- the top bits of the lanes of all words are those of the digits of their number
tops_words : (t n : ℕ) (ws : List ℕ) → 2 ^ 64 ≡ (2 ^ t) ^ n → Each1 (λ w. w < 2 ^ 64) ws → map (λ x. leb (2 ^ (t - 1)) x) (digits_l (2 ^ t) (n * length ws) (number_l (2 ^ 64) ws)) ≡ tops_in t n ws
tops_words t n [] e fit = let z : n * zero ≡ zero = omega arith in rw z refl
tops_words t n (w ∷ ws) e fit =
    let more : n * suc (length ws) ≡ n + n * length ws = omega arith in
    let d : digits_l (2 ^ t) (n + n * length ws) (w + (2 ^ t) ^ n * number_l (2 ^ 64) ws) ≡ digits_l (2 ^ t) n w ++ digits_l (2 ^ t) (n * length ws) (number_l (2 ^ 64) ws)
    = digits_two (2 ^ t) n (n * length ws) w (number_l (2 ^ 64) ws) (pow_pos t) (rw e at fit.0) in
    let d2 : digits_l (2 ^ t) (n * suc (length ws)) (w + 2 ^ 64 * number_l (2 ^ 64) ws) ≡ digits_l (2 ^ t) n w ++ digits_l (2 ^ t) (n * length ws) (number_l (2 ^ 64) ws)
    = ap (λ k. digits_l (2 ^ t) k (w + 2 ^ 64 * number_l (2 ^ 64) ws)) more ∙ (ap (λ q. digits_l (2 ^ t) (n + n * length ws) (w + q * number_l (2 ^ 64) ws)) e ∙ d) in
    ap (map (λ x. leb (2 ^ (t - 1)) x)) d2
    ∙ (map-append (λ x. leb (2 ^ (t - 1)) x) (digits_l (2 ^ t) n w) (digits_l (2 ^ t) (n * length ws) (number_l (2 ^ 64) ws))
    ∙ ap (λ z. map (λ x. leb (2 ^ (t - 1)) x) (digits_l (2 ^ t) n w) ++ z) (tops_words t n ws e fit.1))

abbrev ge : ℕ → ℕ → Bool
ge a b = leb b a

-- what `to_bitmask` reads of the lanes that are not below the top bit
abbrev pub top_mask : Width → ℕ → List ℕ → ℕ
top_mask w n xs = mask_l (map (top (hbits w)) (zip2 (λ a b. cond (leb b a) (2 ^ bits w - 1) 0) xs (replicate n (2 ^ hbits w)))) % 2 ^ 64

abbrev pub as_bytes : List ℕ → List ℕ
as_bytes ws = digits_l 256 32 (number_l (2 ^ 64) ws)

pub tops_eight : (ws : List ℕ) → length ws ≡ 4 → Each1 (λ w. w < 2 ^ 64) ws → top_mask w8 32 (as_bytes ws) ≡ mask_l (tops_in 8 8 ws)
tops_eight ws four fit =
    bitmask_splat w8 ge (as_bytes ws) 32 128 (length_digits 256 32 (number_l (2 ^ 64) ws)) (lit≤ tt)
    ∙ ap mask_l (let f = tops_words 8 8 ws refl fit in rw four at f)

bytes_back : (ws : List ℕ) → length ws ≡ 4 → Each1 (λ w. w < 2 ^ 64) ws → number_l 256 (as_bytes ws) ≡ number_l (2 ^ 64) ws
bytes_back ws four fit =
    let lt : number_l (2 ^ 64) ws < 256 ^ 32 = (let f = number_lt (2 ^ 64) ws (lit< tt) fit in rw four at f) in
    number_digits 256 32 (number_l (2 ^ 64) ws) (lit< tt) lt

pub tops_sixteen : (ws : List ℕ) → length ws ≡ 4 → Each1 (λ w. w < 2 ^ 64) ws → top_mask w16 16 (digits_l (2 ^ 16) 16 (number_l 256 (as_bytes ws))) ≡ mask_l (tops_in 16 4 ws)
tops_sixteen ws four fit =
    ap (λ z. top_mask w16 16 (digits_l (2 ^ 16) 16 z)) (bytes_back ws four fit)
    ∙ (bitmask_splat w16 ge (digits_l (2 ^ 16) 16 (number_l (2 ^ 64) ws)) 16 (2 ^ 15) (length_digits (2 ^ 16) 16 (number_l (2 ^ 64) ws)) (lit≤ tt)
    ∙ ap mask_l (let f = tops_words 16 4 ws refl fit in rw four at f))

pub tops_thirty_two : (ws : List ℕ) → length ws ≡ 4 → Each1 (λ w. w < 2 ^ 64) ws → top_mask w32 8 (digits_l (2 ^ 32) 8 (number_l 256 (as_bytes ws))) ≡ mask_l (tops_in 32 2 ws)
tops_thirty_two ws four fit =
    ap (λ z. top_mask w32 8 (digits_l (2 ^ 32) 8 z)) (bytes_back ws four fit)
    ∙ (bitmask_splat w32 ge (digits_l (2 ^ 32) 8 (number_l (2 ^ 64) ws)) 8 (2 ^ 31) (length_digits (2 ^ 32) 8 (number_l (2 ^ 64) ws)) (lit≤ tt)
    ∙ ap mask_l (let f = tops_words 32 2 ws refl fit in rw four at f))

-- ---- lanes that have their top bit or nothing

-- a lane's top bit where a truth value is true
abbrev pub top_of : ℕ → Bool → ℕ
top_of t b = if b then 2 ^ (t - 1) else 0

abbrev pub tops_stacked : ℕ → List Bool → ℕ
tops_stacked t bs = stacked t (map (λ b. if b then 2 ^ (t - 1) else 0) bs)

twice : (t : ℕ) → 0 < t → 2 ^ t ≡ 2 ^ (t - 1) * 2
twice t some = let e : t ≡ (t - 1) + 1 = omega arith in ap (λ k. 2 ^ k) e ∙ pow-add 2 (t - 1) 1 ∙ omega arith

top_lt : (t : ℕ) (b : Bool) → 0 < t → top_of t b < 2 ^ t
top_lt t true some = let two = twice t some in let p : 0 < 2 ^ (t - 1) = pow_pos (t - 1) in omega (arith, two, p)
top_lt t false some = pow_pos t

leb_refl : (a : ℕ) → leb a a ≡ true
leb_refl a = elim (leb_tells a a) [ inl p ↦ p.0 | inr p ↦ absurd (omega (arith, p.1)) ]

leb_none : (a : ℕ) → 0 < a → leb a 0 ≡ false
leb_none a some = elim (leb_tells a 0) [ inl p ↦ absurd (omega (arith, p.1)) | inr p ↦ p.0 ]

top_read : (t : ℕ) (b : Bool) → leb (2 ^ (t - 1)) (top_of t b) ≡ b
top_read t true = leb_refl (2 ^ (t - 1))
top_read t false = leb_none (2 ^ (t - 1)) (pow_pos (t - 1))

pub tops_back : (t : ℕ) (bs : List Bool) → 0 < t → map (λ x. leb (2 ^ (t - 1)) x) (digits_l (2 ^ t) (length bs) (tops_stacked t bs)) ≡ bs
tops_back t [] some = refl
tops_back t (b ∷ bs) some =
    let lt = top_lt t b some in
    rw (mod_low (tops_stacked t bs) t (top_of t b) lt, shr_high (tops_stacked t bs) t (top_of t b) lt, top_read t b, tops_back t bs some) refl

pub tops_back_all : (t n : ℕ) (f : ℕ → List Bool) (xs : List ℕ) → 0 < t → ((x : ℕ) → length (f x) ≡ n) → tops_in t n (map (λ x. tops_stacked t (f x)) xs) ≡ flat_map f xs
tops_back_all t n f [] some each = refl
tops_back_all t n f (x ∷ xs) some each =
    let one : map (λ y. leb (2 ^ (t - 1)) y) (digits_l (2 ^ t) n (tops_stacked t (f x))) ≡ f x = (let e = tops_back t (f x) some in rw (each x) at e) in
    (λ i. one i ++ tops_back_all t n f xs some each i) ∙ sym (flat_map-cons f x xs)

pub tops_stacked_lt : (t : ℕ) (bs : List Bool) → 0 < t → tops_stacked t bs < 2 ^ (t * length bs)
tops_stacked_lt t [] some = pow_pos (t * zero)
tops_stacked_lt t (b ∷ bs) some =
    let lt = top_lt t b some in
    let rest = tops_stacked_lt t bs some in
    let k : t * suc (length bs) ≡ t * length bs + t = omega arith in
    let p : 2 ^ (t * suc (length bs)) ≡ 2 ^ (t * length bs) * 2 ^ t = ap (λ m. 2 ^ m) k ∙ pow-add 2 (t * length bs) t in
    let m : (tops_stacked t bs + 1) * 2 ^ t ≤ 2 ^ (t * length bs) * 2 ^ t = mul-le (tops_stacked t bs + 1) (2 ^ t) (2 ^ (t * length bs)) (2 ^ t) (omega arith) (omega arith) in
    omega (arith, p, m, lt)

-- the top bit of one lane
pub top_at : (t : ℕ) (bs : List Bool) (k : ℕ) → 0 < t → tops_stacked t bs / 2 ^ (t * k + (t - 1)) % 2 ≡ cond (get_or bs k false) 1 0
top_at t [] k some = Rattle.std.proofs.lemmas.Nat.Bits.bit_at-zero (t * k + (t - 1))
top_at t (b ∷ bs) zero some =
    let z : t * zero + (t - 1) ≡ t - 1 = omega arith in
    let two = twice t some in
    let bit : ℕ = cond b 1 0 in
    let e : tops_stacked t (b ∷ bs) ≡ (tops_stacked t bs * 2 + bit) * 2 ^ (t - 1) + 0 = elim b as (λ v. tops_stacked t bs * 2 ^ t + top_of t v ≡ (tops_stacked t bs * 2 + cond v 1 0) * 2 ^ (t - 1) + 0) [ true ↦ rw two (omega arith) | false ↦ rw two (omega arith) ] in
    let d : tops_stacked t (b ∷ bs) / 2 ^ (t - 1) ≡ tops_stacked t bs * 2 + bit = ap (λ v. v / 2 ^ (t - 1)) e ∙ shr_high (tops_stacked t bs * 2 + bit) (t - 1) 0 (pow_pos (t - 1)) in
    ap (λ m. tops_stacked t (b ∷ bs) / 2 ^ m % 2) z ∙ ap (λ v. v % 2) d ∙ elim b as (λ v. (tops_stacked t bs * 2 + cond v 1 0) % 2 ≡ cond v 1 0) [ true ↦ omega arith | false ↦ omega arith ]
top_at t (b ∷ bs) (suc k) some =
    let s : t * suc k + (t - 1) ≡ t + (t * k + (t - 1)) = omega arith in
    let p : 2 ^ (t * suc k + (t - 1)) ≡ 2 ^ t * 2 ^ (t * k + (t - 1)) = ap (λ m. 2 ^ m) s ∙ pow-add 2 t (t * k + (t - 1)) in
    let d : tops_stacked t (b ∷ bs) / 2 ^ t ≡ tops_stacked t bs = shr_high (tops_stacked t bs) t (top_of t b) (top_lt t b some) in
    ap (λ m. tops_stacked t (b ∷ bs) / m % 2) p
    ∙ ap (λ v. v % 2) (sym (div-div-eq-div-mul (tops_stacked t (b ∷ bs)) (2 ^ t) (2 ^ (t * k + (t - 1)))) ∙ ap (λ v. v / 2 ^ (t * k + (t - 1))) d)
    ∙ top_at t bs k some
