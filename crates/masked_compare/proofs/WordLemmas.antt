-- Rows as lanes of a word, and read back.
use Rattle.std.proofs.Common.{ℕ, ◌+◌, ◌*◌, ◌/◌, ◌%◌, ◌^◌, ◌≡◌, ◌≤◌, ◌<◌, refl, sym, ◌∙◌, ap, subst, arith, zero, suc, List, [], ◌∷◌, ◌++◌, length, map, replicate, bit_or, lit≤, IsTrue}
use Rattle.std.proofs.lemmas.Nat.{pow_pos, pow-add, or_shifted, or_comm, mul-le, mod_low, shr_high}
use Rattle.std.proofs.lemmas.List.{map-append, append-nil, length-map, length-replicate}
use Rattle.std.proofs.Math.Nat.{pow-le-pow_right, mul-zero, div-eq_of_lt, mod-eq_of_lt}
use Rattle.masked_compare.specs.Fields.{is_shape, fields_bits, lane_bits, lane_count}
use Rattle.masked_compare.specs.Words.{lane_of, stacked, word_of, codes_in, lanes_in, rows_in, IsRow, IsCleanLane, HasCleanLanes, IsClean}
use Rattle.masked_compare.proofs.FieldLemmas.{power_more, lane_fits, lanes_fill}

-- each of these rows is one of these widths
abbrev pub AreRows : List ℕ → List (List ℕ) → Type 0
AreRows ws [] = Unit {0}
AreRows ws (row ∷ rows) = IsRow ws row × AreRows ws rows

pub lane_lt : (ws cs : List ℕ) → IsRow ws cs → lane_of ws cs < 2 ^ fields_bits ws
lane_lt [] cs h = omega arith
lane_lt (w ∷ ws) [] h = elim h [ ]
lane_lt (w ∷ ws) (c ∷ cs) h =
    let m = lane_lt ws cs h.1 in
    let q = power_more w ws in
    let p : 2 ^ (w + 1) ≡ 2 ^ w * 2 ^ 1 = pow-add 2 w 1 in
    let g : (lane_of ws cs + 1) * 2 ^ (w + 1) ≤ 2 ^ fields_bits ws * 2 ^ (w + 1) = mul-le (lane_of ws cs + 1) (2 ^ (w + 1)) (2 ^ fields_bits ws) (2 ^ (w + 1)) (omega arith) (omega arith) in
    omega (arith, q, p, h.0)

pub lane_below : (ws cs : List ℕ) (t : ℕ) → fields_bits ws ≤ t → IsRow ws cs → lane_of ws cs < 2 ^ t
lane_below ws cs t fit h = omega (arith, lane_lt ws cs h, pow-le-pow_right {n = 2} (lit≤ tt) fit)

-- each lane is below a bound
abbrev pub AllBelow : ℕ → List ℕ → Type 0
AllBelow bound [] = Unit {0}
AllBelow bound (x ∷ xs) = (x < bound) × AllBelow bound xs

pub lanes_below : (ws : List ℕ) (t : ℕ) (rows : List (List ℕ)) → fields_bits ws ≤ t → AreRows ws rows → AllBelow (2 ^ t) (map (lane_of ws) rows)
lanes_below ws t [] fit h = tt
lanes_below ws t (row ∷ rows) fit h = (lane_below ws row t fit h.0, lanes_below ws t rows fit h.1)

power_next : (t n : ℕ) → 2 ^ (t * suc n) ≡ 2 ^ (t * n) * 2 ^ t
power_next t n =
    let s : t * suc n ≡ t * n + t = omega arith in
    ap (λ k. 2 ^ k) s ∙ pow-add 2 (t * n) t

pub stacked_lt : (t : ℕ) (xs : List ℕ) → AllBelow (2 ^ t) xs → stacked t xs < 2 ^ (t * length xs)
stacked_lt t [] h = pow_pos (t * 0)
stacked_lt t (x ∷ xs) h =
    let m = stacked_lt t xs h.1 in
    let q = power_next t (length xs) in
    let g : (stacked t xs + 1) * 2 ^ t ≤ 2 ^ (t * length xs) * 2 ^ t = mul-le (stacked t xs + 1) (2 ^ t) (2 ^ (t * length xs)) (2 ^ t) (omega arith) (omega arith) in
    omega (arith, h.0, q, g)

pub stacked_add : (t : ℕ) (xs : List ℕ) (y : ℕ) → stacked t (xs ++ y ∷ []) ≡ y * 2 ^ (t * length xs) + stacked t xs
stacked_add t [] y = let z : t * 0 ≡ 0 = mul-zero t in rw z (omega arith)
stacked_add t (x ∷ xs) y =
    let q = power_next t (length xs) in
    rw (stacked_add t xs y, q) (omega arith)

-- one lane more is an OR
pub stacked_or : (t : ℕ) (xs : List ℕ) (y : ℕ) → AllBelow (2 ^ t) xs → stacked t (xs ++ y ∷ []) ≡ bit_or (stacked t xs) (y * 2 ^ (t * length xs))
stacked_or t xs y h = stacked_add t xs y ∙ (sym (or_shifted y (t * length xs) (stacked t xs) (stacked_lt t xs h)) ∙ or_comm (y * 2 ^ (t * length xs)) (stacked t xs))

-- one row more is an OR of its lane
pub word_push : (ws : List ℕ) (rows : List (List ℕ)) (row : List ℕ) → IsTrue (is_shape ws) → AreRows ws rows → word_of ws (rows ++ row ∷ []) ≡ bit_or (word_of ws rows) (lane_of ws row * 2 ^ (lane_bits ws * length rows))
unfolding word_of
word_push ws rows row shape h =
    ap (stacked (lane_bits ws)) (map-append (lane_of ws) rows (row ∷ []))
    ∙ (stacked_or (lane_bits ws) (map (lane_of ws) rows) (lane_of ws row) (lanes_below ws (lane_bits ws) rows (lane_fits ws shape) h)
    ∙ ap (λ z. bit_or (stacked (lane_bits ws) (map (lane_of ws) rows)) (lane_of ws row * 2 ^ (lane_bits ws * z))) (length-map rows (lane_of ws)))

pub word_lt : (ws : List ℕ) (rows : List (List ℕ)) → IsTrue (is_shape ws) → AreRows ws rows → word_of ws rows < 2 ^ (lane_bits ws * length rows)
unfolding word_of
word_lt ws rows shape h =
    let l = length-map rows (lane_of ws) in
    subst (λ (n : ℕ). stacked (lane_bits ws) (map (lane_of ws) rows) < 2 ^ (lane_bits ws * n)) l (stacked_lt (lane_bits ws) (map (lane_of ws) rows) (lanes_below ws (lane_bits ws) rows (lane_fits ws shape) h))

-- a lane read back
code_low : (w X c : ℕ) → c < 2 ^ w → ((X * 2 ^ (w + 1) + c) % 2 ^ w ≡ c) × ((X * 2 ^ (w + 1) + c) / 2 ^ w % 2 ≡ 0) × ((X * 2 ^ (w + 1) + c) / 2 ^ (w + 1) ≡ X)
code_low w X c h =
    let q : 2 ^ (w + 1) ≡ 2 ^ w * 2 ^ 1 = pow-add 2 w 1 in
    let e : X * 2 ^ (w + 1) + c ≡ (X * 2) * 2 ^ w + c = rw q (omega arith) in (
      rw e (mod_low (X * 2) w c h),
      rw (e, shr_high (X * 2) w c h) (omega arith),
      shr_high X (w + 1) c (omega (arith, q, h)),
    )

pub row_back : (ws cs : List ℕ) → IsRow ws cs → IsCleanLane ws (lane_of ws cs) × (codes_in ws (lane_of ws cs) ≡ cs)
row_back [] cs h = (refl, sym h)
row_back (w ∷ ws) [] h = elim h [ ]
row_back (w ∷ ws) (c ∷ cs) h =
    let k = code_low w (lane_of ws cs) c h.0 in
    let more = row_back ws cs h.1 in (
      (k.1, rw (k.2) (more.0)),
      rw (k.0, k.2, more.1) refl,
    )

-- the row of zeros
abbrev pub zero_row : List ℕ → List ℕ
zero_row ws = replicate (length ws) 0

zero_back : (ws : List ℕ) → IsCleanLane ws 0 × (codes_in ws 0 ≡ zero_row ws)
zero_back [] = (refl, refl)
zero_back (w ∷ ws) =
    let more = zero_back ws in
    let p : 0 % 2 ^ w ≡ 0 = mod-eq_of_lt (pow_pos w) in
    let d : 0 / 2 ^ (w + 1) ≡ 0 = div-eq_of_lt (pow_pos (w + 1)) in
    let u : 0 / 2 ^ w ≡ 0 = div-eq_of_lt (pow_pos w) in (
      (rw u refl, rw d (more.0)),
      rw (p, d, more.1) refl,
    )

zeros_back : (ws : List ℕ) (t n : ℕ) → HasCleanLanes ws t n 0 × (map (codes_in ws) (lanes_in t n 0) ≡ replicate n (zero_row ws))
zeros_back ws t zero = (tt, refl)
zeros_back ws t (suc n) =
    let p : 0 % 2 ^ t ≡ 0 = mod-eq_of_lt (pow_pos t) in
    let d : 0 / 2 ^ t ≡ 0 = div-eq_of_lt (pow_pos t) in
    let one = zero_back ws in
    let more = zeros_back ws t n in (
      (rw p (one.0), rw d (more.0)),
      rw (p, d, one.1, more.1) refl,
    )

-- rows of lanes read back, and k lanes that are left over
pub lanes_back : (ws : List ℕ) (t n k : ℕ) (rows : List (List ℕ)) → fields_bits ws ≤ t → AreRows ws rows → length rows + k ≡ n → HasCleanLanes ws t n (stacked t (map (lane_of ws) rows)) × (map (codes_in ws) (lanes_in t n (stacked t (map (lane_of ws) rows))) ≡ rows ++ replicate k (zero_row ws))
lanes_back ws t n k [] fit h e = let m : k ≡ n = omega (arith, e) in rw m (zeros_back ws t n)
lanes_back ws t zero k (row ∷ rows) fit h e = absurd (omega (arith, e))
lanes_back ws t (suc n) k (row ∷ rows) fit h e =
    let X : ℕ = stacked t (map (lane_of ws) rows) in
    let y : ℕ = lane_of ws row in
    let yb : y < 2 ^ t = lane_below ws row t fit h.0 in
    let one = row_back ws row h.0 in
    let more = lanes_back ws t n k rows fit h.1 (omega (arith, e)) in (
      (rw (mod_low X t y yb) (one.0), rw (shr_high X t y yb) (more.0)),
      rw (mod_low X t y yb, shr_high X t y yb, one.1, more.1) refl,
    )

-- the rows of a word read back, and rows of zeros for the lanes that are left over
pub rows_back : (ws : List ℕ) (rows : List (List ℕ)) (k : ℕ) → IsTrue (is_shape ws) → AreRows ws rows → length rows + k ≡ lane_count ws → IsClean ws (word_of ws rows) × (rows_in ws (word_of ws rows) ≡ rows ++ replicate k (zero_row ws))
unfolding word_of rows_in IsClean
rows_back ws rows k shape h e = lanes_back ws (lane_bits ws) (lane_count ws) k rows (lane_fits ws shape) h e

pub same_rows : (ws : List ℕ) (n : ℕ) (row : List ℕ) → IsRow ws row → AreRows ws (replicate n row)
same_rows ws zero row h = tt
same_rows ws (suc n) row h = (h, same_rows ws n row h)

-- the same row in every lane
pub spread_back : (ws row : List ℕ) → IsTrue (is_shape ws) → IsRow ws row → IsClean ws (word_of ws (replicate (lane_count ws) row)) × (rows_in ws (word_of ws (replicate (lane_count ws) row)) ≡ replicate (lane_count ws) row)
spread_back ws row shape h =
    let n : ℕ = lane_count ws in
    let l : length (replicate n row) ≡ n = length-replicate n row in
    let back = rows_back ws (replicate n row) 0 shape (same_rows ws n row h) (omega (arith, l)) in
    (back.0, back.1 ∙ append-nil (replicate n row))

pub stacked_same : (t n y : ℕ) → stacked t (replicate n y) ≡ y * stacked t (replicate n 1)
stacked_same t zero y = omega arith
stacked_same t (suc n) y =
    rw (stacked_same t n y) (by y (stacked t (replicate n 1)) (2 ^ t))
  where
    by : (y s p : ℕ) → y * s * p + y ≡ y * (s * p + 1)
    by y s p = grind arith

map_same_row : (f : List ℕ → ℕ) (n : ℕ) (row : List ℕ) → map f (replicate n row) ≡ replicate n (f row)
map_same_row f zero row = refl
map_same_row f (suc n) row = ap (λ xs. f row ∷ xs) (map_same_row f n row)

pub spread_word : (ws row : List ℕ) → word_of ws (replicate (lane_count ws) row) ≡ lane_of ws row * stacked (lane_bits ws) (replicate (lane_count ws) 1)
unfolding word_of
spread_word ws row =
    ap (stacked (lane_bits ws)) (map_same_row (lane_of ws) (lane_count ws) row)
    ∙ stacked_same (lane_bits ws) (lane_count ws) (lane_of ws row)

all_below : (b n y : ℕ) → y < b → AllBelow b (replicate n y)
all_below b zero y h = tt
all_below b (suc n) y h = (h, all_below b n y h)

-- a lane in every place stays in the word
pub spread_lt : (ws : List ℕ) (y : ℕ) → IsTrue (is_shape ws) → y < 2 ^ lane_bits ws → y * stacked (lane_bits ws) (replicate (lane_count ws) 1) < 2 ^ 64
spread_lt ws y shape h =
    let t : ℕ = lane_bits ws in
    let n : ℕ = lane_count ws in
    let l : t * length (replicate n y) ≡ 64 = ap (λ k. t * k) (length-replicate n y) ∙ lanes_fill ws shape in
    let s : stacked t (replicate n y) < 2 ^ 64 = subst (λ (k : ℕ). stacked t (replicate n y) < 2 ^ k) l (stacked_lt t (replicate n y) (all_below (2 ^ t) n y h)) in
    subst (λ (x : ℕ). x < 2 ^ 64) (stacked_same t n y) s
