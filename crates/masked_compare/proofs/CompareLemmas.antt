-- The comparison of a field, of a lane and of a word.
use Rattle.std.proofs.Common.{ℕ, ◌+◌, ◌-◌, ◌*◌, ◌/◌, ◌%◌, ◌^◌, ◌≡◌, ◌≤◌, ◌<◌, refl, sym, ◌∙◌, ap, subst, arith, Bool, true, false, cond, leb, ◌&&◌, zero, suc, List, [], ◌∷◌, map, replicate, inl, inr, IsTrue}
use Rattle.std.specs.Prelude.{bit_and, bit_or}
use Rattle.std.proofs.lemmas.Nat.{and_block, or_shifted, or_comm, pow_pos, pow-add, mod-pow-add, shr_split, and_le_r, mod_below, shr_below, mul-le}
use Rattle.std.proofs.Math.Nat.{mul-zero, pow-le-pow_right}
use Rattle.std.proofs.Common.{lit≤}
use Rattle.std.proofs.lemmas.Bool.Decides.{leb_tells}
use Rattle.masked_compare.specs.Fields.{is_shape, fields_bits, lane_bits, lane_count}
use Rattle.masked_compare.specs.Words.{stacked, codes_in, lanes_in, rows_in, IsCleanLane, HasCleanLanes, IsClean}
use Rattle.masked_compare.specs.Marks.{lane_guards, lane_marks, guards_of, marks_of, inside_row, inside_rows, inside_of}
use Rattle.masked_compare.proofs.FieldLemmas.{power_more, lane_fits, lanes_fill}
use Rattle.masked_compare.proofs.BlockLemmas.{tested, IsTestable, testable_block, tested_block}

-- a number with its guard, less another of its width
borrow_of : (w x h : ℕ) → x < 2 ^ w → h < 2 ^ w → (q : ℕ) × (q < 2 ^ w) × ((1 * 2 ^ w + h) - x ≡ cond (leb x h) 1 0 * 2 ^ w + q)
borrow_of w x h xw hw = elim (leb_tells x h) [
  | inl p ↦ (h - x, omega arith, rw (p.0) (omega arith))
  | inr p ↦ ((2 ^ w + h) - x, omega arith, rw (p.0) (omega arith))
]

and_zero : (a : ℕ) → bit_and a 0 ≡ 0
and_zero a = omega (arith, and_le_r a 0)

both_bits : (a b : Bool) → bit_and (bit_and (cond a 1 0) (cond b 1 0)) 1 ≡ cond (b && a) 1 0
both_bits true true = refl
both_bits true false = refl
both_bits false true = refl
both_bits false false = refl

with_guard : (w h : ℕ) → h < 2 ^ w → bit_or h (1 * 2 ^ w) ≡ 1 * 2 ^ w + h
with_guard w h hw = or_comm h (1 * 2 ^ w) ∙ or_shifted 1 w h hw

pub field_testable : (w x l h : ℕ) → x < 2 ^ w → l < 2 ^ w → h < 2 ^ w → IsTestable x l h (1 * 2 ^ w)
field_testable w x l h xw lw hw = record {
  above = rw (with_guard w h hw) (omega arith);
  below = rw (with_guard w x xw) (omega arith);
}

pub field_tested : (w x l h : ℕ) → x < 2 ^ w → l < 2 ^ w → h < 2 ^ w → tested x l h (1 * 2 ^ w) ≡ cond (leb l x && leb x h) 1 0 * 2 ^ w
field_tested w x l h xw lw hw =
    let u = borrow_of w x h xw hw in
    let d = borrow_of w l x lw xw in
    let a : ℕ = cond (leb x h) 1 0 in
    let b : ℕ = cond (leb l x) 1 0 in
    let ud : bit_and u.0 d.0 < 2 ^ w = omega (arith, and_le_r u.0 d.0) in
    let z : 0 < 2 ^ w = pow_pos w in
    let e : bit_and (bit_and (a * 2 ^ w + u.0) (b * 2 ^ w + d.0)) (1 * 2 ^ w + 0) ≡ cond (leb l x && leb x h) 1 0 * 2 ^ w + 0
    = rw (and_block w a b u.0 d.0 u.1 d.1, and_block w (bit_and a b) 1 (bit_and u.0 d.0) 0 ud z, and_zero (bit_and u.0 d.0), both_bits (leb x h) (leb l x)) refl in
    let one : 1 * 2 ^ w ≡ 1 * 2 ^ w + 0 = omega arith in
    let last : tested x l h (1 * 2 ^ w) ≡ bit_and (bit_and (a * 2 ^ w + u.0) (b * 2 ^ w + d.0)) (1 * 2 ^ w + 0)
    = rw (with_guard w h hw, with_guard w x xw, u.2, d.2) (ap (λ z. bit_and (bit_and (a * 2 ^ w + u.0) (b * 2 ^ w + d.0)) z) one) in
    omega (arith, last, e)

-- one lane

-- the field below a zero guard, and the rest above it
pub split_field : (w x : ℕ) → x / 2 ^ w % 2 ≡ 0 → x ≡ x / 2 ^ (w + 1) * 2 ^ (w + 1) + x % 2 ^ w
split_field w x z =
    let e : x % 2 ^ (1 + w) ≡ (x / 2 ^ w % 2 ^ 1) * 2 ^ w + x % 2 ^ w = mod-pow-add x 1 w in
    let s : x / 2 ^ (w + 1) * 2 ^ (w + 1) + x % 2 ^ (w + 1) ≡ x = shr_split x (w + 1) in
    let t : w + 1 ≡ 1 + w = omega arith in
    let m : x % 2 ^ (w + 1) ≡ x % 2 ^ w = rw (t, e, z) (omega arith) in
    omega (arith, s, m)

field_small : (w x : ℕ) → (x % 2 ^ w < 2 ^ w) × (x % 2 ^ w < 2 ^ (w + 1))
field_small w x =
    let p : 0 < 2 ^ w = pow_pos w in
    let m : x % 2 ^ w < 2 ^ w = mod_below x (2 ^ w) p in
    let q : 2 ^ (w + 1) ≡ 2 ^ w * 2 ^ 1 = pow-add 2 w 1 in
    (m, omega (arith, q))

guard_small : (w : ℕ) → 1 * 2 ^ w < 2 ^ (w + 1)
guard_small w =
    let p : 0 < 2 ^ w = pow_pos w in
    let q : 2 ^ (w + 1) ≡ 2 ^ w * 2 ^ 1 = pow-add 2 w 1 in
    omega arith

pub record LaneFact (ws : List ℕ) (x l h : ℕ) : Type 0 where
  pub testable : IsTestable x l h (lane_guards ws)
  pub gives : tested x l h (lane_guards ws) ≡ lane_marks ws (inside_row (codes_in ws l) (codes_in ws h) (codes_in ws x))

pub lane_fact : (ws : List ℕ) (x l h : ℕ) → IsCleanLane ws x → IsCleanLane ws l → IsCleanLane ws h → LaneFact ws x l h
lane_fact [] x l h xc lc hc = rw (xc, lc, hc) (record { testable = record { above = omega arith; below = omega arith }; gives = refl })
lane_fact (w ∷ ws) x l h xc lc hc =
    let more = lane_fact ws (x / 2 ^ (w + 1)) (l / 2 ^ (w + 1)) (h / 2 ^ (w + 1)) xc.1 lc.1 hc.1 in
    let X : ℕ = x / 2 ^ (w + 1) in
    let L : ℕ = l / 2 ^ (w + 1) in
    let H : ℕ = h / 2 ^ (w + 1) in
    let xs = field_small w x in
    let ls = field_small w l in
    let hs = field_small w h in
    let small = field_testable w (x % 2 ^ w) (l % 2 ^ w) (h % 2 ^ w) xs.0 ls.0 hs.0 in
    let T : IsTestable (X * 2 ^ (w + 1) + x % 2 ^ w) (L * 2 ^ (w + 1) + l % 2 ^ w) (H * 2 ^ (w + 1) + h % 2 ^ w) (lane_guards (w ∷ ws))
    = testable_block (w + 1) X L H (lane_guards ws) (x % 2 ^ w) (l % 2 ^ w) (h % 2 ^ w) (1 * 2 ^ w) xs.1 hs.1 (guard_small w) more.testable small in
    let E : tested (X * 2 ^ (w + 1) + x % 2 ^ w) (L * 2 ^ (w + 1) + l % 2 ^ w) (H * 2 ^ (w + 1) + h % 2 ^ w) (lane_guards (w ∷ ws)) ≡ lane_marks (w ∷ ws) (inside_row (codes_in (w ∷ ws) l) (codes_in (w ∷ ws) h) (codes_in (w ∷ ws) x))
    = tested_block (w + 1) X L H (lane_guards ws) (x % 2 ^ w) (l % 2 ^ w) (h % 2 ^ w) (1 * 2 ^ w) xs.1 hs.1 (guard_small w) more.testable small
    ∙ rw (more.gives, field_tested w (x % 2 ^ w) (l % 2 ^ w) (h % 2 ^ w) xs.0 ls.0 hs.0) refl in
    let P : ℕ → ℕ → ℕ → Type 0 = λ a b c. IsTestable a b c (lane_guards (w ∷ ws)) × (tested a b c (lane_guards (w ∷ ws)) ≡ lane_marks (w ∷ ws) (inside_row (codes_in (w ∷ ws) l) (codes_in (w ∷ ws) h) (codes_in (w ∷ ws) x))) in
    let xe = sym (split_field w x xc.0) in
    let le = sym (split_field w l lc.0) in
    let he = sym (split_field w h hc.0) in
    let p0 = subst (λ (z : ℕ). P z (L * 2 ^ (w + 1) + l % 2 ^ w) (H * 2 ^ (w + 1) + h % 2 ^ w)) xe (T, E) in
    let p1 = subst (λ (z : ℕ). P x z (H * 2 ^ (w + 1) + h % 2 ^ w)) le p0 in
    let p2 = subst (λ (z : ℕ). P x l z) he p1 in
    record { testable = p2.0; gives = p2.1 }

pub lane_guards_lt : (ws : List ℕ) → lane_guards ws < 2 ^ fields_bits ws
lane_guards_lt [] = omega arith
lane_guards_lt (w ∷ ws) =
    let h = lane_guards_lt ws in
    let q = power_more w ws in
    let g : 1 * 2 ^ w < 2 ^ (w + 1) = guard_small w in
    let m : (lane_guards ws + 1) * 2 ^ (w + 1) ≤ 2 ^ fields_bits ws * 2 ^ (w + 1) = mul-le (lane_guards ws + 1) (2 ^ (w + 1)) (2 ^ fields_bits ws) (2 ^ (w + 1)) (omega arith) (omega arith) in
    omega (arith, q, m)

-- n lanes of t bits

pub record WordFact (ws : List ℕ) (t n x l h : ℕ) : Type 0 where
  pub testable : IsTestable x l h (stacked t (replicate n (lane_guards ws)))
  pub gives : tested x l h (stacked t (replicate n (lane_guards ws))) ≡ stacked t (map (lane_marks ws) (inside_rows (map (codes_in ws) (lanes_in t n l)) (map (codes_in ws) (lanes_in t n h)) (map (codes_in ws) (lanes_in t n x))))

low_lane : (t x : ℕ) → x % 2 ^ t < 2 ^ t
low_lane t x = mod_below x (2 ^ t) (pow_pos t)

rest_below : (t n x : ℕ) → x < 2 ^ (t * suc n) → x / 2 ^ t < 2 ^ (t * n)
rest_below t n x h = shr_below x (t * n) t (let e : t * suc n ≡ t * n + t = omega arith in rw (← e) h)

pub word_fact : (ws : List ℕ) (t n x l h : ℕ) → fields_bits ws ≤ t → x < 2 ^ (t * n) → l < 2 ^ (t * n) → h < 2 ^ (t * n) → HasCleanLanes ws t n x → HasCleanLanes ws t n l → HasCleanLanes ws t n h → WordFact ws t n x l h
word_fact ws t zero x l h fit xb lb hb xc lc hc =
    let z : 2 ^ (t * zero) ≡ 1 = rw mul-zero refl in
    let x0 : x ≡ 0 = omega arith in
    let l0 : l ≡ 0 = omega arith in
    let h0 : h ≡ 0 = omega arith in
    rw (x0, l0, h0) (record { testable = record { above = omega arith; below = omega arith }; gives = refl })
word_fact ws t (suc n) x l h fit xb lb hb xc lc hc =
    let X : ℕ = x / 2 ^ t in
    let L : ℕ = l / 2 ^ t in
    let H : ℕ = h / 2 ^ t in
    let G : ℕ = stacked t (replicate n (lane_guards ws)) in
    let g : ℕ = lane_guards ws in
    let more = word_fact ws t n X L H fit (rest_below t n x xb) (rest_below t n l lb) (rest_below t n h hb) xc.1 lc.1 hc.1 in
    let one = lane_fact ws (x % 2 ^ t) (l % 2 ^ t) (h % 2 ^ t) xc.0 lc.0 hc.0 in
    let gt : g < 2 ^ t = omega (arith, lane_guards_lt ws, pow-le-pow_right {n = 2} (lit≤ tt) fit) in
    let T : IsTestable (X * 2 ^ t + x % 2 ^ t) (L * 2 ^ t + l % 2 ^ t) (H * 2 ^ t + h % 2 ^ t) (G * 2 ^ t + g)
    = testable_block t X L H G (x % 2 ^ t) (l % 2 ^ t) (h % 2 ^ t) g (low_lane t x) (low_lane t h) gt more.testable one.testable in
    let R : ℕ = stacked t (map (lane_marks ws) (inside_rows (map (codes_in ws) (lanes_in t (suc n) l)) (map (codes_in ws) (lanes_in t (suc n) h)) (map (codes_in ws) (lanes_in t (suc n) x)))) in
    let E : tested (X * 2 ^ t + x % 2 ^ t) (L * 2 ^ t + l % 2 ^ t) (H * 2 ^ t + h % 2 ^ t) (G * 2 ^ t + g) ≡ R
    = tested_block t X L H G (x % 2 ^ t) (l % 2 ^ t) (h % 2 ^ t) g (low_lane t x) (low_lane t h) gt more.testable one.testable
    ∙ rw (more.gives, one.gives) refl in
    let P : ℕ → ℕ → ℕ → Type 0 = λ a b c. IsTestable a b c (G * 2 ^ t + g) × (tested a b c (G * 2 ^ t + g) ≡ R) in
    let p0 = subst (λ (z : ℕ). P z (L * 2 ^ t + l % 2 ^ t) (H * 2 ^ t + h % 2 ^ t)) (shr_split x t) (T, E) in
    let p1 = subst (λ (z : ℕ). P x z (H * 2 ^ t + h % 2 ^ t)) (shr_split l t) p0 in
    let p2 = subst (λ (z : ℕ). P x l z) (shr_split h t) p1 in
    record { testable = p2.0; gives = p2.1 }

-- two guarded subtractions tell each field that lies between its bounds
pub within_fact : (ws : List ℕ) (x l h : ℕ) → IsTrue (is_shape ws) → x < 2 ^ 64 → l < 2 ^ 64 → h < 2 ^ 64 → IsClean ws x → IsClean ws l → IsClean ws h → IsTestable x l h (guards_of ws) × (tested x l h (guards_of ws) ≡ marks_of ws (inside_of ws x l h))
unfolding IsClean guards_of marks_of inside_of rows_in
within_fact ws x l h shape xb lb hb xc lc hc =
    let e : 2 ^ 64 ≡ 2 ^ (lane_bits ws * lane_count ws) = ap (λ (n : ℕ). 2 ^ n) (sym (lanes_fill ws shape)) in
    let f = word_fact ws (lane_bits ws) (lane_count ws) x l h (lane_fits ws shape) (subst (λ (n : ℕ). x < n) e xb) (subst (λ (n : ℕ). l < n) e lb) (subst (λ (n : ℕ). h < n) e hb) xc lc hc in
    (f.testable, f.gives)
