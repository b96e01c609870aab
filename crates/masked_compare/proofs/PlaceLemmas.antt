-- One field of a word, by its place.
use Rattle.std.proofs.Common.{ℕ, ◌+◌, ◌-◌, ◌*◌, ◌/◌, ◌%◌, ◌^◌, ◌≡◌, ◌≤◌, ◌<◌, refl, sym, ◌∙◌, ap, subst, arith, zero, suc, List, [], ◌∷◌, length, map, take, get_or, lit≤, bit_and, IsTrue}
use Rattle.std.proofs.Math.ListN.{set}
use Rattle.std.proofs.Math.Nat.{mul-zero, div-one, div-mul-le_self, mod-le, mod-eq_of_lt, pow-le-pow_right}
use Rattle.std.proofs.Math.Pow.{mod-mod-pow}
use Rattle.std.proofs.lemmas.Nat.{pow_pos, pow-add, shr-shr, shr_split, field_of, mod_low, shr_high, mod_below, shr_below, and_mask, one_shl, shl_whole, mul-le}
use Rattle.masked_compare.specs.Fields.{is_shape, fields_bits, lane_bits, lane_count}
use Rattle.masked_compare.specs.Words.{codes_in, lanes_in, rows_in, IsCleanLane, HasCleanLanes, IsClean}
use Rattle.masked_compare.proofs.FieldLemmas.{fields_more, lane_fits, lanes_fill}
use Rattle.masked_compare.proofs.ShapeLemmas.{fits_lane}

-- a field stands below the end of its lane
pub field_fits : (ws : List ℕ) (col : ℕ) → col < length ws → fields_bits (take col ws) + (get_or ws col 0 + 1) ≤ fields_bits ws
field_fits [] col h = absurd (omega (arith, h))
field_fits (w ∷ ws) zero h = rw (fields_more w ws) (omega arith)
field_fits (w ∷ ws) (suc col) h =
    let more = field_fits ws col (omega (arith, h)) in
    rw (fields_more w ws, fields_more w (take col ws)) (omega (arith, more))

-- the next field stands behind this one
pub field_next : (ws : List ℕ) (col : ℕ) → col < length ws → fields_bits (take (suc col) ws) ≡ fields_bits (take col ws) + (get_or ws col 0 + 1)
field_next [] col h = absurd (omega (arith, h))
field_next (w ∷ ws) zero h = fields_more w [] ∙ omega arith
field_next (w ∷ ws) (suc col) h =
    let more = field_next ws col (omega (arith, h)) in
    rw (fields_more w (take (suc col) ws), fields_more w (take col ws)) (omega (arith, more))

-- a number of bits within a longer one
mid : (y p w t : ℕ) → p + w ≤ t → y % 2 ^ t / 2 ^ p % 2 ^ w ≡ y / 2 ^ p % 2 ^ w
mid y p w t h =
    let i : ℕ = t - (p + w) in
    let e : (i + w) + p ≡ t = omega (arith, h) in
    subst (λ (k : ℕ). y % 2 ^ k / 2 ^ p % 2 ^ w ≡ y / 2 ^ p % 2 ^ w) e
    (ap (λ (n : ℕ). n % 2 ^ w) (field_of y (i + w) p) ∙ mod-mod-pow (y / 2 ^ p) i w)

code_at : (ws : List ℕ) (y col : ℕ) → col < length ws → get_or (codes_in ws y) col 0 ≡ y / 2 ^ fields_bits (take col ws) % 2 ^ get_or ws col 0
code_at [] y col h = absurd (omega (arith, h))
code_at (w ∷ ws) y zero h = ap (λ (n : ℕ). n % 2 ^ w) (sym (div-one y))
code_at (w ∷ ws) y (suc col) h =
    let q : ℕ = fields_bits (take col ws) in
    let e : (w + 1) + q ≡ fields_bits (w ∷ take col ws) = sym (fields_more w (take col ws)) in
    code_at ws (y / 2 ^ (w + 1)) col (omega (arith, h))
    ∙ ap (λ (n : ℕ). n % 2 ^ get_or ws col 0) (shr-shr y (w + 1) q ∙ ap (λ (k : ℕ). y / 2 ^ k) e)

lane_at : (ws : List ℕ) (t n x lane : ℕ) → lane < n → get_or (map (codes_in ws) (lanes_in t n x)) lane [] ≡ codes_in ws (x / 2 ^ (t * lane) % 2 ^ t)
lane_at ws t zero x lane h = absurd (omega (arith, h))
lane_at ws t (suc n) x zero h =
    let e : x ≡ x / 2 ^ (t * 0) = rw (mul-zero t) (sym (div-one x)) in
    ap (λ (y : ℕ). codes_in ws (y % 2 ^ t)) e
lane_at ws t (suc n) x (suc lane) h =
    let e : t + t * lane ≡ t * suc lane = omega arith in
    lane_at ws t n (x / 2 ^ t) lane (omega (arith, h))
    ∙ ap (λ (y : ℕ). codes_in ws (y % 2 ^ t)) (shr-shr x t (t * lane) ∙ ap (λ (k : ℕ). x / 2 ^ k) e)

field_in : (ws : List ℕ) (t n x lane col : ℕ) → fields_bits ws ≤ t → lane < n → col < length ws → get_or (get_or (map (codes_in ws) (lanes_in t n x)) lane []) col 0 ≡ x / 2 ^ (t * lane + fields_bits (take col ws)) % 2 ^ get_or ws col 0
field_in ws t n x lane col fit lh ch =
    let q : ℕ = fields_bits (take col ws) in
    let w : ℕ = get_or ws col 0 in
    let room : q + w ≤ t = omega (arith, fit, field_fits ws col ch) in
    ap (λ (row : List ℕ). get_or row col 0) (lane_at ws t n x lane lh)
    ∙ (code_at ws (x / 2 ^ (t * lane) % 2 ^ t) col ch
    ∙ (mid (x / 2 ^ (t * lane)) q w t room
    ∙ ap (λ (n : ℕ). n % 2 ^ w) (shr-shr x (t * lane) q)))

-- the place of a field
abbrev pub place_of : List ℕ → ℕ → ℕ → ℕ
place_of ws lane col = lane_bits ws * lane + fields_bits (take col ws)

-- a field of a word, as its bits from its place on
pub field_word : (ws : List ℕ) (x lane col : ℕ) → IsTrue (is_shape ws) → lane < lane_count ws → col < length ws → get_or (get_or (rows_in ws x) lane []) col 0 ≡ x / 2 ^ place_of ws lane col % 2 ^ get_or ws col 0
unfolding rows_in
field_word ws x lane col shape lh ch = field_in ws (lane_bits ws) (lane_count ws) x lane col (lane_fits ws shape) lh ch

-- a field's code is within its width, and so a number of 32 bits
pub field_small : (ws : List ℕ) (x lane col : ℕ) → IsTrue (is_shape ws) → lane < lane_count ws → col < length ws → get_or (get_or (rows_in ws x) lane []) col 0 < 2 ^ get_or ws col 0
field_small ws x lane col shape lh ch =
    subst (λ (n : ℕ). n < 2 ^ get_or ws col 0) (sym (field_word ws x lane col shape lh ch)) (mod_below (x / 2 ^ place_of ws lane col) (2 ^ get_or ws col 0) (pow_pos (get_or ws col 0)))

pub width_small : (ws : List ℕ) (col : ℕ) → IsTrue (is_shape ws) → col < length ws → 2 ^ get_or ws col 0 ≤ 2 ^ 32
width_small ws col shape ch =
    let h : get_or ws col 0 ≤ 32 = omega (arith, field_fits ws col ch, fits_lane ws shape) in
    pow-le-pow_right {n = 2} (lit≤ tt) h

-- a field ends within the word
pub place_fits : (ws : List ℕ) (lane col : ℕ) → IsTrue (is_shape ws) → lane < lane_count ws → col < length ws → place_of ws lane col + (get_or ws col 0 + 1) ≤ 64
place_fits ws lane col shape lh ch =
    let t : ℕ = lane_bits ws in
    let m : t * suc lane ≤ t * lane_count ws = mul-le t (suc lane) t (lane_count ws) (omega arith) (omega (arith, lh)) in
    let s : t * suc lane ≡ t * lane + t = omega arith in
    omega (arith, m, s, lanes_fill ws shape, lane_fits ws shape, field_fits ws col ch)

-- the number with other bits at a place
abbrev pub changed : ℕ → ℕ → ℕ → ℕ → ℕ
changed p w x c = x - (x / 2 ^ p % 2 ^ w) * 2 ^ p + c * 2 ^ p

pub old_le : (p w x : ℕ) → (x / 2 ^ p % 2 ^ w) * 2 ^ p ≤ x
old_le p w x =
    let a : x / 2 ^ p % 2 ^ w ≤ x / 2 ^ p = mod-le (x / 2 ^ p) (2 ^ w) in
    let b : (x / 2 ^ p % 2 ^ w) * 2 ^ p ≤ x / 2 ^ p * 2 ^ p = mul-le (x / 2 ^ p % 2 ^ w) (2 ^ p) (x / 2 ^ p) (2 ^ p) a (omega arith) in
    omega (arith, b, div-mul-le_self x (2 ^ p))

-- the bits below the place stay
changed_high : (k q w x c : ℕ) → changed (k + q) w x c ≡ changed q w (x / 2 ^ k) c * 2 ^ k + x % 2 ^ k
changed_high k q w x c =
    let X : ℕ = x / 2 ^ k in
    let f : ℕ = X / 2 ^ q % 2 ^ w in
    let d : x / 2 ^ (k + q) ≡ X / 2 ^ q = sym (shr-shr x k q) in
    let s : X * 2 ^ k + x % 2 ^ k ≡ x = shr_split x k in
    let e : 2 ^ (k + q) ≡ 2 ^ k * 2 ^ q = pow-add 2 k q in
    let le : f * 2 ^ q ≤ X = old_le q w X in
    rw (d, e) (by (2 ^ k) (2 ^ q) x X (x % 2 ^ k) f c s le)
  where
    by : (K Q x X r f c : ℕ) → X * K + r ≡ x → f * Q ≤ X → x - f * (K * Q) + c * (K * Q) ≡ (X - f * Q + c * Q) * K + r
    by K Q x X r f c s le =
        let d : X ≡ f * Q + (X - f * Q) = omega (arith, le) in
        let one : x ≡ f * (K * Q) + ((X - f * Q) * K + r) = rw (← s) (step K Q X (X - f * Q) r f d) in
        let two : (X - f * Q + c * Q) * K + r ≡ (X - f * Q) * K + r + c * (K * Q) = spread (X - f * Q) c Q K r in
        omega (arith, one, two)
      where
        step : (K Q X D r f : ℕ) → X ≡ f * Q + D → X * K + r ≡ f * (K * Q) + (D * K + r)
        step K Q X D r f d = rw d (grind arith)

        spread : (D c Q K r : ℕ) → (D + c * Q) * K + r ≡ D * K + r + c * (K * Q)
        spread D c Q K r = grind arith

-- a number whose lowest bits are others
changed_zero : (w x c : ℕ) → changed 0 w x c ≡ x / 2 ^ w * 2 ^ w + c
changed_zero w x c =
    let s : x / 2 ^ w * 2 ^ w + x % 2 ^ w ≡ x = shr_split x w in
    let d : x / 2 ^ 0 ≡ x = div-one x in
    rw d (omega (arith, s))

-- changed bits stay within a number of bits
pub changed_lt : (p w x c k : ℕ) → p + w ≤ k → c < 2 ^ w → x < 2 ^ k → changed p w x c < 2 ^ k
changed_lt p w x c k room ch xh =
    let j : ℕ = k - (p + w) in
    let e : j + (p + w) ≡ k = omega (arith, room) in
    let X : ℕ = x / 2 ^ p in
    let high : changed (p + 0) w x c ≡ changed 0 w X c * 2 ^ p + x % 2 ^ p = changed_high p 0 w x c in
    let z : p + 0 ≡ p = omega arith in
    let low : changed 0 w X c ≡ X / 2 ^ w * 2 ^ w + c = changed_zero w X c in
    let xk : x < 2 ^ (((j + w) + p)) = subst (λ (n : ℕ). x < 2 ^ n) (omega (arith, e)) xh in
    let Xb : X < 2 ^ (j + w) = shr_below x (j + w) p xk in
    let Ab : X / 2 ^ w < 2 ^ j = shr_below X j w Xb in
    let r : x % 2 ^ p < 2 ^ p = mod_below x (2 ^ p) (pow_pos p) in
    let a : (X / 2 ^ w + 1) * 2 ^ w ≤ 2 ^ j * 2 ^ w = mul-le (X / 2 ^ w + 1) (2 ^ w) (2 ^ j) (2 ^ w) (omega (arith, Ab)) (omega arith) in
    let b : changed 0 w X c + 1 ≤ 2 ^ j * 2 ^ w = omega (arith, low, a, ch) in
    let m : (changed 0 w X c + 1) * 2 ^ p ≤ (2 ^ j * 2 ^ w) * 2 ^ p = mul-le (changed 0 w X c + 1) (2 ^ p) (2 ^ j * 2 ^ w) (2 ^ p) b (omega arith) in
    let pw : 2 ^ k ≡ (2 ^ j * 2 ^ w) * 2 ^ p = ap (λ (n : ℕ). 2 ^ n) (omega (arith, e)) ∙ (pow-add 2 (j + w) p ∙ ap (λ (n : ℕ). n * 2 ^ p) (pow-add 2 j w)) in
    let h : changed p w x c ≡ changed 0 w X c * 2 ^ p + x % 2 ^ p = ap (λ (n : ℕ). changed n w x c) (sym z) ∙ high in
    omega (arith, h, m, pw, r)

-- the bits above a longer number stay
pub changed_low : (p w x c k : ℕ) → p + w ≤ k → c < 2 ^ w → changed p w x c ≡ x / 2 ^ k * 2 ^ k + changed p w (x % 2 ^ k) c
changed_low p w x c k room ch =
    let f = mid x p w k room in
    let s : x / 2 ^ k * 2 ^ k + x % 2 ^ k ≡ x = shr_split x k in
    let le : (x % 2 ^ k / 2 ^ p % 2 ^ w) * 2 ^ p ≤ x % 2 ^ k = old_le p w (x % 2 ^ k) in
    let g : (x % 2 ^ k / 2 ^ p % 2 ^ w) * 2 ^ p ≡ (x / 2 ^ p % 2 ^ w) * 2 ^ p = ap (λ (n : ℕ). n * 2 ^ p) f in
    omega (arith, s, le, g)

-- a field by a shift and a mask
pub field_masked : (ws vs : List ℕ) (x lane col p : ℕ) → vs ≡ ws → IsTrue (is_shape ws) → lane < lane_count ws → col < length ws → p ≡ place_of ws lane col
    → bit_and (x / 2 ^ p) (1 * 2 ^ get_or vs col 0 % 2 ^ 64 - 1) ≡ get_or (get_or (rows_in ws x) lane []) col 0
field_masked ws vs x lane col p e shape lh ch pe =
    let w : ℕ = get_or ws col 0 in
    let we : get_or vs col 0 ≡ w = ap (λ (xs : List ℕ). get_or xs col 0) e in
    let short : w < 64 = omega (arith, place_fits ws lane col shape lh ch) in
    let one : 1 * 2 ^ get_or vs col 0 % 2 ^ 64 ≡ 2 ^ w = ap (λ (k : ℕ). 1 * 2 ^ k % 2 ^ 64) we ∙ one_shl w 64 short in
    ap (λ (m : ℕ). bit_and (x / 2 ^ p) (m - 1)) one
    ∙ (and_mask (x / 2 ^ p) w
    ∙ (ap (λ (k : ℕ). x / 2 ^ k % 2 ^ w) pe
    ∙ sym (field_word ws x lane col shape lh ch)))

-- a lane with another code
pub record LaneSet (ws : List ℕ) (y z col c : ℕ) : Type 0 where
  pub codes : codes_in ws z ≡ set (codes_in ws y) col c
  pub clean : IsCleanLane ws y → IsCleanLane ws z

-- two numbers with the same bits below w + 1
same_low : (w x z : ℕ) → z % 2 ^ (w + 1) ≡ x % 2 ^ (w + 1) → (z % 2 ^ w ≡ x % 2 ^ w) × (z / 2 ^ w % 2 ≡ x / 2 ^ w % 2)
same_low w x z e =
    let t : w + 1 ≡ 1 + w = omega arith in
    let e' : z % 2 ^ (1 + w) ≡ x % 2 ^ (1 + w) = subst (λ (k : ℕ). z % 2 ^ k ≡ x % 2 ^ k) t e in (
      sym (mod-mod-pow z 1 w) ∙ (ap (λ (n : ℕ). n % 2 ^ w) e' ∙ mod-mod-pow x 1 w),
      sym (field_of z 1 w) ∙ (ap (λ (n : ℕ). n / 2 ^ w) e' ∙ field_of x 1 w),
    )

lane_set : (ws : List ℕ) (y col c : ℕ) → col < length ws → c < 2 ^ get_or ws col 0 → LaneSet ws y (changed (fields_bits (take col ws)) (get_or ws col 0) y c) col c
lane_set [] y col c h ch = absurd (omega (arith, h))
lane_set (w ∷ ws) y zero c h ch =
    let z : ℕ = changed 0 w y c in
    let e : z ≡ y / 2 ^ w * 2 ^ w + c = changed_zero w y c in
    let low : z % 2 ^ w ≡ c = rw e (mod_low (y / 2 ^ w) w c ch) in
    let high : z / 2 ^ w ≡ y / 2 ^ w = rw e (shr_high (y / 2 ^ w) w c ch) in
    let rest : z / 2 ^ (w + 1) ≡ y / 2 ^ (w + 1) = sym (shr-shr z w 1) ∙ (ap (λ (n : ℕ). n / 2 ^ 1) high ∙ shr-shr y w 1) in
    record {
      codes = rw (low, rest) refl;
      clean = λ k. (ap (λ (n : ℕ). n % 2) high ∙ k.0, subst (IsCleanLane ws) (sym rest) (k.1));
    }
lane_set (w ∷ ws) y (suc col) c h ch =
    let q : ℕ = fields_bits (take col ws) in
    let v : ℕ = get_or ws col 0 in
    let z : ℕ = changed (fields_bits (w ∷ take col ws)) v y c in
    let Y : ℕ = y / 2 ^ (w + 1) in
    let more = lane_set ws Y col c (omega (arith, h)) ch in
    let e : z ≡ changed q v Y c * 2 ^ (w + 1) + y % 2 ^ (w + 1) = ap (λ (p : ℕ). changed p v y c) (fields_more w (take col ws)) ∙ changed_high (w + 1) q v y c in
    let yb : y % 2 ^ (w + 1) < 2 ^ (w + 1) = mod_below y (2 ^ (w + 1)) (pow_pos (w + 1)) in
    let low : z % 2 ^ (w + 1) ≡ y % 2 ^ (w + 1) = ap (λ (n : ℕ). n % 2 ^ (w + 1)) e ∙ mod_low (changed q v Y c) (w + 1) (y % 2 ^ (w + 1)) yb in
    let high : z / 2 ^ (w + 1) ≡ changed q v Y c = ap (λ (n : ℕ). n / 2 ^ (w + 1)) e ∙ shr_high (changed q v Y c) (w + 1) (y % 2 ^ (w + 1)) yb in
    let same = same_low w y z low in
    record {
      codes = rw (same.0, high, more.codes) refl;
      clean = λ k. (same.1 ∙ k.0, subst (IsCleanLane ws) (sym high) (more.clean k.1));
    }

-- so many lanes with another code in one of them
pub record LanesSet (ws : List ℕ) (t n x z lane col c : ℕ) : Type 0 where
  pub codes : map (codes_in ws) (lanes_in t n z) ≡ set (map (codes_in ws) (lanes_in t n x)) lane (set (get_or (map (codes_in ws) (lanes_in t n x)) lane []) col c)
  pub clean : HasCleanLanes ws t n x → HasCleanLanes ws t n z

lanes_set : (ws : List ℕ) (t n x lane col c : ℕ) → fields_bits ws ≤ t → lane < n → col < length ws → c < 2 ^ get_or ws col 0 → LanesSet ws t n x (changed (t * lane + fields_bits (take col ws)) (get_or ws col 0) x c) lane col c
lanes_set ws t zero x lane col c fit lh h ch = absurd (omega (arith, lh))
lanes_set ws t (suc n) x zero col c fit lh h ch =
    let q : ℕ = fields_bits (take col ws) in
    let v : ℕ = get_or ws col 0 in
    let z : ℕ = changed (t * 0 + q) v x c in
    let y : ℕ = x % 2 ^ t in
    let room : q + v ≤ t = omega (arith, fit, field_fits ws col h) in
    let p : t * 0 + q ≡ q = omega (arith, mul-zero t) in
    let yb : y < 2 ^ t = mod_below x (2 ^ t) (pow_pos t) in
    let small : changed q v y c < 2 ^ t = changed_lt q v y c t room ch yb in
    let e : z ≡ x / 2 ^ t * 2 ^ t + changed q v y c = ap (λ (k : ℕ). changed k v x c) p ∙ changed_low q v x c t room ch in
    let low : z % 2 ^ t ≡ changed q v y c = ap (λ (k : ℕ). k % 2 ^ t) e ∙ mod_low (x / 2 ^ t) t (changed q v y c) small in
    let high : z / 2 ^ t ≡ x / 2 ^ t = ap (λ (k : ℕ). k / 2 ^ t) e ∙ shr_high (x / 2 ^ t) t (changed q v y c) small in
    let one = lane_set ws y col c h ch in
    record {
      codes = rw (low, high, one.codes) refl;
      clean = λ k. (subst (IsCleanLane ws) (sym low) (one.clean k.0), subst (HasCleanLanes ws t n) (sym high) (k.1));
    }
lanes_set ws t (suc n) x (suc lane) col c fit lh h ch =
    let q : ℕ = fields_bits (take col ws) in
    let v : ℕ = get_or ws col 0 in
    let z : ℕ = changed (t * suc lane + q) v x c in
    let X : ℕ = x / 2 ^ t in
    let p : t * suc lane + q ≡ t + (t * lane + q) = omega arith in
    let yb : x % 2 ^ t < 2 ^ t = mod_below x (2 ^ t) (pow_pos t) in
    let Z : ℕ = changed (t * lane + q) v X c in
    let e : z ≡ Z * 2 ^ t + x % 2 ^ t = ap (λ (k : ℕ). changed k v x c) p ∙ changed_high t (t * lane + q) v x c in
    let low : z % 2 ^ t ≡ x % 2 ^ t = ap (λ (k : ℕ). k % 2 ^ t) e ∙ mod_low Z t (x % 2 ^ t) yb in
    let high : z / 2 ^ t ≡ Z = ap (λ (k : ℕ). k / 2 ^ t) e ∙ shr_high Z t (x % 2 ^ t) yb in
    let more = lanes_set ws t n X lane col c fit (omega (arith, lh)) h ch in
    record {
      codes = rw (low, high, more.codes) refl;
      clean = λ k. (subst (IsCleanLane ws) (sym low) (k.0), subst (HasCleanLanes ws t n) (sym high) (more.clean k.1));
    }

-- a word with another code
pub record WordSet (ws : List ℕ) (x z lane col c : ℕ) : Type 0 where
  pub codes : rows_in ws z ≡ set (rows_in ws x) lane (set (get_or (rows_in ws x) lane []) col c)
  pub clean : IsClean ws x → IsClean ws z

pub word_set : (ws : List ℕ) (x lane col c : ℕ) → IsTrue (is_shape ws) → lane < lane_count ws → col < length ws → c < 2 ^ get_or ws col 0 → WordSet ws x (changed (place_of ws lane col) (get_or ws col 0) x c) lane col c
unfolding rows_in IsClean
word_set ws x lane col c shape lh h ch =
    let s = lanes_set ws (lane_bits ws) (lane_count ws) x lane col c (lane_fits ws shape) lh h ch in
    record { codes = s.codes; clean = s.clean }

-- the same as the call computes it
pub record FieldSet (ws : List ℕ) (x p old u c lane col : ℕ) : Type 0 where
  pub taken : old * 2 ^ p % 2 ^ 64 ≤ x
  pub fits : x - old * 2 ^ p % 2 ^ 64 + u * 2 ^ p % 2 ^ 64 < 2 ^ 64
  pub word : WordSet ws x (x - old * 2 ^ p % 2 ^ 64 + u * 2 ^ p % 2 ^ 64) lane col c

pub field_set : (ws : List ℕ) (x p old u c lane col : ℕ) → IsTrue (is_shape ws) → lane < lane_count ws → col < length ws → c < 2 ^ get_or ws col 0 → x < 2 ^ 64 → p ≡ place_of ws lane col → old ≡ get_or (get_or (rows_in ws x) lane []) col 0 → u ≡ c → FieldSet ws x p old u c lane col
field_set ws x p old u c lane col shape lh h ch xb pe oe ue =
    let v : ℕ = get_or ws col 0 in
    let room : p + v ≤ 64 = omega (arith, pe, place_fits ws lane col shape lh h) in
    let was : old ≡ x / 2 ^ p % 2 ^ v = oe ∙ (field_word ws x lane col shape lh h ∙ ap (λ (k : ℕ). x / 2 ^ k % 2 ^ v) (sym pe)) in
    let le : old * 2 ^ p ≤ x = rw was (old_le p v x) in
    let one : old * 2 ^ p % 2 ^ 64 ≡ old * 2 ^ p = mod-eq_of_lt (omega (arith, le, xb)) in
    let roomy : v + p ≤ 64 = omega (arith, room) in
    let two : u * 2 ^ p % 2 ^ 64 ≡ c * 2 ^ p = ap (λ (k : ℕ). k * 2 ^ p % 2 ^ 64) ue ∙ shl_whole c v p 64 ch roomy in
    let z : x - old * 2 ^ p % 2 ^ 64 + u * 2 ^ p % 2 ^ 64 ≡ changed p v x c = rw (one, two, was) refl in
    let z' : changed (place_of ws lane col) v x c ≡ x - old * 2 ^ p % 2 ^ 64 + u * 2 ^ p % 2 ^ 64 = ap (λ (k : ℕ). changed k v x c) (sym pe) ∙ sym z in
    record {
      taken = omega (arith, one, le);
      fits = subst (λ (n : ℕ). n < 2 ^ 64) (sym z) (changed_lt p v x c 64 room ch xb);
      word = subst (λ (n : ℕ). WordSet ws x n lane col c) z' (word_set ws x lane col c shape lh h ch);
    }
