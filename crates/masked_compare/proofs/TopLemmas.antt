-- The lanes that lack a guard bit.
use Rattle.std.proofs.Common.{ℕ, ◌+◌, ◌-◌, ◌*◌, ◌/◌, ◌%◌, ◌^◌, ◌≡◌, ◌≤◌, ◌<◌, refl, sym, ◌∙◌, ap, subst, arith, Bool, true, false, cond, eqb, not, ◌||◌, zero, suc, List, [], ◌∷◌, map, replicate, ◌⊎◌, inl, inr, lit≤, lit<, IsTrue}
use Rattle.std.specs.Prelude.{bit_and, bit_or, bit_xor}
use Rattle.std.proofs.lemmas.Nat.{and_block, or_block, xor_block, xor_lt, or_lt, and_mask, and_le_l, and_le_r, pow_pos, pow-add, mod-pow-add, shr_split, mod_below, shr_below, mul-le}
use Rattle.std.proofs.Math.Nat.{mul-zero, pow-le-pow_right}
use Rattle.masked_compare.specs.Fields.{fields_bits, is_shape, lane_bits}
use Rattle.masked_compare.specs.Words.{stacked, lanes_in}
use Rattle.masked_compare.specs.Marks.{lane_guards, marks_in, IsMarkedLane, HasMarkedLanes, lacks, IsMarked, marked_in, tops_where, guards_of, tops_of}
use Rattle.masked_compare.proofs.FieldLemmas.{each_lane}
use Rattle.masked_compare.proofs.CompareLemmas.{lane_guards_lt}

abbrev pub failed : ℕ → ℕ → ℕ → ℕ
failed m r h = bit_and (bit_or (bit_and m r + r) m) h

pub failed_block : (k M R H m r h : ℕ) → m < 2 ^ k → r < 2 ^ k → h < 2 ^ k → bit_and m r + r < 2 ^ k → failed (M * 2 ^ k + m) (R * 2 ^ k + r) (H * 2 ^ k + h) ≡ failed M R H * 2 ^ k + failed m r h
failed_block k M R H m r h mk rk hk sk =
    let A : ℕ = bit_and M R in
    let a : ℕ = bit_and m r in
    let s : (A * 2 ^ k + a) + (R * 2 ^ k + r) ≡ (A + R) * 2 ^ k + (a + r) = omega arith in
    rw (and_block k M R m r mk rk, s, or_block k (A + R) M (a + r) m sk mk, and_block k (bit_or (A + R) M) H (bit_or (a + r) m) h (or_lt k (a + r) m sk mk) hk) refl

-- one lane: its top bit where any bit is set
pub failed_none : (t : ℕ) → failed 0 (2 ^ t - 1) (2 ^ t) ≡ 0
failed_none t =
    let z : 0 < 2 ^ t = pow_pos t in
    let e : bit_and 0 (2 ^ t - 1) ≡ 0 = omega (arith, and_le_l 0 (2 ^ t - 1)) in
    let lo : bit_or (0 * 2 ^ t + (2 ^ t - 1)) (0 * 2 ^ t + 0) ≡ bit_or 0 0 * 2 ^ t + bit_or (2 ^ t - 1) 0 = or_block t 0 0 (2 ^ t - 1) 0 (omega arith) z in
    let b : bit_or (2 ^ t - 1) 0 < 2 ^ t = or_lt t (2 ^ t - 1) 0 (omega arith) z in
    let f : bit_and (0 * 2 ^ t + bit_or (2 ^ t - 1) 0) (1 * 2 ^ t + 0) ≡ bit_and 0 1 * 2 ^ t + bit_and (bit_or (2 ^ t - 1) 0) 0 = and_block t 0 1 (bit_or (2 ^ t - 1) 0) 0 b z in
    let y : bit_and (bit_or (2 ^ t - 1) 0) 0 ≡ 0 = omega (arith, and_le_r (bit_or (2 ^ t - 1) 0) 0) in
    let g : bit_and (bit_or (2 ^ t - 1) 0) (2 ^ t) ≡ 0 = (let u : bit_or (2 ^ t - 1) 0 ≡ 0 * 2 ^ t + bit_or (2 ^ t - 1) 0 = omega arith in let v : 2 ^ t ≡ 1 * 2 ^ t + 0 = omega arith in subst (λ (p : ℕ). bit_and p (2 ^ t) ≡ 0) (sym u) (subst (λ (p : ℕ). bit_and (0 * 2 ^ t + bit_or (2 ^ t - 1) 0) p ≡ 0) (sym v) (omega (arith, f, y)))) in
    let w : bit_and 0 (2 ^ t - 1) + (2 ^ t - 1) ≡ 2 ^ t - 1 = omega (arith, e) in
    subst (λ (p : ℕ). bit_and (bit_or p 0) (2 ^ t) ≡ 0) (sym w) g

pub failed_some : (t m : ℕ) → 0 < m → m < 2 ^ (t + 1) → failed m (2 ^ t - 1) (2 ^ t) ≡ 2 ^ t
failed_some t m some mb =
    let z : 0 < 2 ^ t = pow_pos t in
    let p2 : 2 ^ (t + 1) ≡ 2 ^ t * 2 ^ 1 = pow-add 2 t 1 in
    let b : ℕ = m / 2 ^ t in
    let q : ℕ = m % 2 ^ t in
    let qb : q < 2 ^ t = mod_below m (2 ^ t) z in
    let me : b * 2 ^ t + q ≡ m = shr_split m t in
    let b2 : b < 2 = shr_below m 1 t (let e : t + 1 ≡ 1 + t = omega arith in rw (← e) mb) in
    let a : bit_and m (2 ^ t - 1) ≡ q = and_mask m t in
    top t m b q z qb me b2 some a
  where
    finish : (t c b s q : ℕ) → 0 < 2 ^ t → s < 2 ^ t → q < 2 ^ t → bit_and (bit_or c b) 1 ≡ 1 → bit_and (bit_or (c * 2 ^ t + s) (b * 2 ^ t + q)) (1 * 2 ^ t + 0) ≡ 1 * 2 ^ t + 0
    finish t c b s q z sb qb e =
        let n : bit_and (bit_or s q) 0 ≡ 0 = omega (arith, and_le_r (bit_or s q) 0) in
        rw (or_block t c b s q sb qb, and_block t (bit_or c b) 1 (bit_or s q) 0 (or_lt t s q sb qb) z, e, n) refl

    same : (t m u v : ℕ) → bit_and m (2 ^ t - 1) + (2 ^ t - 1) ≡ u → m ≡ v → bit_and (bit_or u v) (1 * 2 ^ t + 0) ≡ 1 * 2 ^ t + 0 → failed m (2 ^ t - 1) (2 ^ t) ≡ 2 ^ t
    same t m u v ue ve e =
        let o : 2 ^ t ≡ 1 * 2 ^ t + 0 = omega arith in
        let one : bit_and (bit_or u v) (2 ^ t) ≡ 2 ^ t = subst (λ (p : ℕ). bit_and (bit_or u v) p ≡ p) (sym o) e in
        let two : bit_and (bit_or u m) (2 ^ t) ≡ 2 ^ t = subst (λ (p : ℕ). bit_and (bit_or u p) (2 ^ t) ≡ 2 ^ t) (sym ve) one in
        subst (λ (p : ℕ). bit_and (bit_or p m) (2 ^ t) ≡ 2 ^ t) (sym ue) two

    top : (t m b q : ℕ) → 0 < 2 ^ t → q < 2 ^ t → b * 2 ^ t + q ≡ m → b < 2 → 0 < m → bit_and m (2 ^ t - 1) ≡ q → failed m (2 ^ t - 1) (2 ^ t) ≡ 2 ^ t
    top t m zero zero z qb me b2 some a = absurd (omega arith)
    top t m zero (suc q) z qb me b2 some a = same t m (1 * 2 ^ t + q) (0 * 2 ^ t + suc q) (omega arith) (omega arith) (finish t 1 0 q (suc q) z (omega arith) qb refl)
    top t m (suc zero) zero z qb me b2 some a = same t m (0 * 2 ^ t + (2 ^ t - 1)) (1 * 2 ^ t + 0) (omega arith) (omega arith) (finish t 0 1 (2 ^ t - 1) 0 z (omega arith) z refl)
    top t m (suc zero) (suc q) z qb me b2 some a = same t m (1 * 2 ^ t + q) (1 * 2 ^ t + suc q) (omega arith) (omega arith) (finish t 1 1 q (suc q) z (omega arith) qb refl)
    top t m (suc (suc b)) q z qb me b2 some a = absurd (omega arith)

-- a lane of marks less the guards: nothing is left where no mark is missing
pub record Missing (ws : List ℕ) (x : ℕ) : Type 0 where
  pub tells : ((lacks (marks_in ws x) ≡ false) × (bit_xor x (lane_guards ws) ≡ 0)) ⊎ ((lacks (marks_in ws x) ≡ true) × (0 < bit_xor x (lane_guards ws)))

split_mark : (w x : ℕ) → x % 2 ^ w ≡ 0 → x ≡ x / 2 ^ (w + 1) * 2 ^ (w + 1) + ((x / 2 ^ w % 2) * 2 ^ w + 0)
split_mark w x z =
    let e : x % 2 ^ (1 + w) ≡ (x / 2 ^ w % 2 ^ 1) * 2 ^ w + x % 2 ^ w = mod-pow-add x 1 w in
    let s : x / 2 ^ (w + 1) * 2 ^ (w + 1) + x % 2 ^ (w + 1) ≡ x = shr_split x (w + 1) in
    let t : w + 1 ≡ 1 + w = omega arith in
    let m : x % 2 ^ (w + 1) ≡ (x / 2 ^ w % 2) * 2 ^ w + 0 = rw (t, e) (omega arith) in
    omega (arith, s, m)

xor_step : (w X G b : ℕ) → b < 2 → bit_xor (X * 2 ^ (w + 1) + (b * 2 ^ w + 0)) (G * 2 ^ (w + 1) + 1 * 2 ^ w) ≡ bit_xor X G * 2 ^ (w + 1) + (bit_xor b 1 * 2 ^ w + 0)
xor_step w X G b b2 =
    let z : 0 < 2 ^ w = pow_pos w in
    let q : 2 ^ (w + 1) ≡ 2 ^ w * 2 ^ 1 = pow-add 2 w 1 in
    let bb : b * 2 ^ w ≤ 1 * 2 ^ w = Rattle.std.proofs.lemmas.Nat.mul-le b (2 ^ w) 1 (2 ^ w) (omega arith) (omega arith) in
    let one : 1 * 2 ^ w ≡ 1 * 2 ^ w + 0 = omega arith in
    let e : bit_xor (b * 2 ^ w + 0) (1 * 2 ^ w + 0) ≡ bit_xor b 1 * 2 ^ w + 0 = xor_block w b 1 0 0 z z in
    xor_block (w + 1) X G (b * 2 ^ w + 0) (1 * 2 ^ w) (omega arith) (omega arith)
    ∙ ap (λ p. bit_xor X G * 2 ^ (w + 1) + p) (subst (λ (p : ℕ). bit_xor (b * 2 ^ w + 0) p ≡ bit_xor b 1 * 2 ^ w + 0) (sym one) e)

missing_step : (w R v b : ℕ) (l : Bool) → b < 2 → v ≡ R * 2 ^ (w + 1) + (bit_xor b 1 * 2 ^ w + 0) → ((l ≡ false) × (R ≡ 0)) ⊎ ((l ≡ true) × (0 < R)) → (((not (eqb b 1) || l) ≡ false) × (v ≡ 0)) ⊎ (((not (eqb b 1) || l) ≡ true) × (0 < v))
missing_step w R v zero l b2 e t = let z : 0 < 2 ^ w = pow_pos w in inr (refl, omega arith)
missing_step w R v (suc zero) l b2 e (inl p) = inl (p.0, rw (e, p.1) (omega arith))
missing_step w R v (suc zero) l b2 e (inr p) =
    let z : 0 < 2 ^ (w + 1) = pow_pos (w + 1) in
    let m : 1 * 2 ^ (w + 1) ≤ R * 2 ^ (w + 1) = mul-le 1 (2 ^ (w + 1)) R (2 ^ (w + 1)) (omega arith) (omega arith) in
    inr (p.0, omega arith)
missing_step w R v (suc (suc b)) l b2 e t = absurd (omega arith)

pub missing : (ws : List ℕ) (x : ℕ) → IsMarkedLane ws x → Missing ws x
missing [] x h = record { tells = inl (refl, rw h refl) }
missing (w ∷ ws) x h =
    let b2 : x / 2 ^ w % 2 < 2 = mod_below (x / 2 ^ w) 2 (omega arith) in
    let E : bit_xor x (lane_guards (w ∷ ws)) ≡ bit_xor (x / 2 ^ (w + 1)) (lane_guards ws) * 2 ^ (w + 1) + (bit_xor (x / 2 ^ w % 2) 1 * 2 ^ w + 0)
    = ap (λ p. bit_xor p (lane_guards (w ∷ ws))) (split_mark w x h.0) ∙ xor_step w (x / 2 ^ (w + 1)) (lane_guards ws) (x / 2 ^ w % 2) b2 in
    record { tells = missing_step w (bit_xor (x / 2 ^ (w + 1)) (lane_guards ws)) (bit_xor x (lane_guards (w ∷ ws))) (x / 2 ^ w % 2) (lacks (marks_in ws (x / 2 ^ (w + 1)))) b2 E (missing ws (x / 2 ^ (w + 1)) h.1).tells }

-- one lane of t + 1 bits
pub lane_failing : (ws : List ℕ) (t x : ℕ) → fields_bits ws ≤ t + 1 → x < 2 ^ (t + 1) → IsMarkedLane ws x → failed (bit_xor x (lane_guards ws)) (2 ^ t - 1) (2 ^ t) ≡ cond (lacks (marks_in ws x)) (2 ^ t) 0
lane_failing ws t x fit xb h =
    let g : lane_guards ws < 2 ^ (t + 1) = omega (arith, lane_guards_lt ws, pow-le-pow_right {n = 2} (lit≤ tt) fit) in
    elim ((missing ws x h).tells) [
      | inl p ↦ rw (p.0, p.1) (failed_none t)
      | inr p ↦ rw (p.0) (failed_some t (bit_xor x (lane_guards ws)) p.1 (xor_lt (t + 1) x (lane_guards ws) xb g))
    ]

-- n lanes of t + 1 bits
pub word_failing : (ws : List ℕ) (t n x : ℕ) → fields_bits ws ≤ t + 1 → x < 2 ^ ((t + 1) * n) → HasMarkedLanes ws (t + 1) n x → failed (bit_xor x (stacked (t + 1) (replicate n (lane_guards ws)))) (stacked (t + 1) (replicate n (2 ^ t - 1))) (stacked (t + 1) (replicate n (2 ^ t))) ≡ stacked (t + 1) (map (λ b. cond b (2 ^ t) 0) (map lacks (map (marks_in ws) (lanes_in (t + 1) n x))))
word_failing ws t zero x fit xb h =
    let z : 2 ^ ((t + 1) * zero) ≡ 1 = rw mul-zero refl in
    let x0 : x ≡ 0 = omega arith in
    rw x0 refl
word_failing ws t (suc n) x fit xb h =
    let k : ℕ = t + 1 in
    let X : ℕ = x / 2 ^ k in
    let y : ℕ = x % 2 ^ k in
    let z : 0 < 2 ^ t = pow_pos t in
    let p2 : 2 ^ k ≡ 2 ^ t * 2 ^ 1 = pow-add 2 t 1 in
    let yb : y < 2 ^ k = mod_below x (2 ^ k) (pow_pos k) in
    let gb : lane_guards ws < 2 ^ k = omega (arith, lane_guards_lt ws, pow-le-pow_right {n = 2} (lit≤ tt) fit) in
    let Xb : X < 2 ^ (k * n) = shr_below x (k * n) k (let e : k * suc n ≡ k * n + k = omega arith in rw (← e) xb) in
    let G : ℕ = stacked k (replicate n (lane_guards ws)) in
    let R : ℕ = stacked k (replicate n (2 ^ t - 1)) in
    let H : ℕ = stacked k (replicate n (2 ^ t)) in
    let m : ℕ = bit_xor y (lane_guards ws) in
    let mb : m < 2 ^ k = xor_lt k y (lane_guards ws) yb gb in
    let xe : bit_xor (X * 2 ^ k + y) (G * 2 ^ k + lane_guards ws) ≡ bit_xor X G * 2 ^ k + m = xor_block k X G y (lane_guards ws) yb gb in
    let more = word_failing ws t n X fit Xb h.1 in
    let one = lane_failing ws t y fit yb h.0 in
    let sk : bit_and m (2 ^ t - 1) + (2 ^ t - 1) < 2 ^ k = omega (arith, and_le_r m (2 ^ t - 1)) in
    let f : failed (bit_xor X G * 2 ^ k + m) (R * 2 ^ k + (2 ^ t - 1)) (H * 2 ^ k + 2 ^ t) ≡ failed (bit_xor X G) R H * 2 ^ k + failed m (2 ^ t - 1) (2 ^ t)
    = failed_block k (bit_xor X G) R H m (2 ^ t - 1) (2 ^ t) mb (omega arith) (omega arith) sk in
    subst (λ (p : ℕ). failed (bit_xor p (G * 2 ^ k + lane_guards ws)) (R * 2 ^ k + (2 ^ t - 1)) (H * 2 ^ k + 2 ^ t) ≡ stacked k (map (λ b. cond b (2 ^ t) 0) (map lacks (map (marks_in ws) (lanes_in k (suc n) x)))))
    (shr_split x k)
    (rw xe (f ∙ rw (more, one) refl))

-- a whole word
pub record FailingFact (ws : List ℕ) (x : ℕ) : Type 0 where
  pub gives : failed (bit_xor x (guards_of ws)) (2 ^ 64 - 1 - tops_of ws) (tops_of ws) ≡ tops_where ws (map lacks (marked_in ws x))
  pub fits : bit_and (bit_xor x (guards_of ws)) (2 ^ 64 - 1 - tops_of ws) + (2 ^ 64 - 1 - tops_of ws) < 2 ^ 64

-- the same over lanes of so many bits
record FailingAt (ws : List ℕ) (x bits : ℕ) : Type 0 where
  gives : HasMarkedLanes ws bits (64 / bits) x → failed (bit_xor x (stacked bits (replicate (64 / bits) (lane_guards ws)))) (2 ^ 64 - 1 - stacked bits (replicate (64 / bits) (2 ^ (bits - 1)))) (stacked bits (replicate (64 / bits) (2 ^ (bits - 1)))) ≡ stacked bits (map (λ b. cond b (2 ^ (bits - 1)) 0) (map lacks (map (marks_in ws) (lanes_in bits (64 / bits) x))))
  low : 2 ^ 64 - 1 - stacked bits (replicate (64 / bits) (2 ^ (bits - 1))) < 2 ^ 63

failing_lanes : (ws : List ℕ) (x : ℕ) → IsTrue (is_shape ws) → x < 2 ^ 64 → FailingAt ws x (lane_bits ws)
failing_lanes ws x shape xb =
    each_lane (FailingAt ws x) ws shape
    (λ fit. record { gives = λ h. word_failing ws 7 8 x fit xb h; low = lit< tt })
    (λ fit. record { gives = λ h. word_failing ws 15 4 x fit xb h; low = lit< tt })
    (λ fit. record { gives = λ h. word_failing ws 31 2 x fit xb h; low = lit< tt })

pub failing_fact : (ws : List ℕ) (x : ℕ) → IsTrue (is_shape ws) → x < 2 ^ 64 → IsMarked ws x → FailingFact ws x
unfolding IsMarked tops_where marked_in guards_of tops_of
failing_fact ws x shape xb h =
    let f = failing_lanes ws x shape xb in
    record { gives = f.gives h; fits = omega (arith, f.low, and_le_r (bit_xor x (guards_of ws)) (2 ^ 64 - 1 - tops_of ws)) }
