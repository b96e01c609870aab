-- The guard bits and the top bits of the lanes of a shape.
use Rattle.std.proofs.Common.{ℕ, ◌+◌, ◌-◌, ◌*◌, ◌/◌, ◌%◌, ◌^◌, ◌≡◌, ◌≤◌, ◌<◌, refl, sym, ◌∙◌, ap, subst, arith, zero, suc, List, [], ◌∷◌, length, take, replicate, get_or, lit≤, IsTrue}
use Rattle.std.proofs.Math.Nat.{mod-eq_of_lt, pow-le-pow_right}
use Rattle.std.proofs.lemmas.Nat.{pow-add}
use Rattle.std.proofs.lemmas.List.Sums.{sum_by-take-le}
use Rattle.masked_compare.specs.Fields.{is_shape, field_bits, fields_bits, lane_bits, lane_count}
use Rattle.masked_compare.specs.Words.{stacked}
use Rattle.masked_compare.specs.Marks.{lane_guards, guards_of, tops_of}
use Rattle.masked_compare.proofs.ShapeLemmas.{fits_lane}
use Rattle.masked_compare.proofs.FieldLemmas.{fields_more, lane_fits}
use Rattle.masked_compare.proofs.CompareLemmas.{lane_guards_lt}
use Rattle.masked_compare.proofs.PlaceLemmas.{field_next}
use Rattle.masked_compare.proofs.WordLemmas.{stacked_same, spread_lt}

guards_next : (ws : List ℕ) (i : ℕ) → i < length ws → lane_guards (take (suc i) ws) ≡ lane_guards (take i ws) + 2 ^ (fields_bits (take i ws) + get_or ws i 0)
guards_next [] i l = absurd (omega (arith, l))
guards_next (w ∷ ws) zero l = first w
  where
    first : (w : ℕ) → 0 * 2 ^ (w + 1) + 1 * 2 ^ w ≡ 0 + 2 ^ (0 + w)
    first w = let z : 0 + w ≡ w = omega arith in rw z (omega arith)
guards_next (w ∷ ws) (suc i) l =
    let more = guards_next ws i (omega (arith, l)) in
    let e : fields_bits (w ∷ take i ws) + get_or ws i 0 ≡ (w + 1) + (fields_bits (take i ws) + get_or ws i 0) = omega (arith, fields_more w (take i ws)) in
    let p : 2 ^ (fields_bits (w ∷ take i ws) + get_or ws i 0) ≡ 2 ^ (w + 1) * 2 ^ (fields_bits (take i ws) + get_or ws i 0) = ap (λ (n : ℕ). 2 ^ n) e ∙ pow-add 2 (w + 1) (fields_bits (take i ws) + get_or ws i 0) in
    rw (more, p) (by (lane_guards (take i ws)) (2 ^ (fields_bits (take i ws) + get_or ws i 0)) (2 ^ (w + 1)) (1 * 2 ^ w))
  where
    by : (g v q b : ℕ) → (g + v) * q + b ≡ (g * q + b) + q * v
    by g v q b = grind arith

-- one guard bit more of a lane
pub record GuardLoop (ws : List ℕ) (i g p v : ℕ) : Type 0 where
  pub sum : g + 1 * 2 ^ (p + v) % 2 ^ 64 ≡ lane_guards (take (i + 1) ws)
  pub fits : g + 1 * 2 ^ (p + v) % 2 ^ 64 < 2 ^ 64
  pub next : p + v + 1 ≡ fields_bits (take (i + 1) ws)

pub guard_loop : (ws : List ℕ) (i g p v : ℕ) → IsTrue (is_shape ws) → i < length ws → g ≡ lane_guards (take i ws) → p ≡ fields_bits (take i ws) → v ≡ get_or ws i 0 → GuardLoop ws i g p v
guard_loop ws i g p v shape l ge pe ve =
    let one : i + 1 ≡ suc i = omega arith in
    let next : fields_bits (take (i + 1) ws) ≡ fields_bits (take i ws) + (get_or ws i 0 + 1) = ap (λ (n : ℕ). fields_bits (take n ws)) one ∙ field_next ws i l in
    let more : lane_guards (take (i + 1) ws) ≡ lane_guards (take i ws) + 2 ^ (fields_bits (take i ws) + get_or ws i 0) = ap (λ (n : ℕ). lane_guards (take n ws)) one ∙ guards_next ws i l in
    let fit : fields_bits (take (i + 1) ws) ≤ 32 = omega (arith, sum_by-take-le field_bits ws (i + 1), fits_lane ws shape) in
    let bound : lane_guards (take (i + 1) ws) < 2 ^ 32 = omega (arith, lane_guards_lt (take (i + 1) ws), pow-le-pow_right {n = 2} (lit≤ tt) fit) in
    let bit : 2 ^ (p + v) ≡ 2 ^ (fields_bits (take i ws) + get_or ws i 0) = rw (pe, ve) refl in
    let small : 1 * 2 ^ (p + v) < 2 ^ 64 = omega (arith, bit, more, bound) in
    let whole : 1 * 2 ^ (p + v) % 2 ^ 64 ≡ 1 * 2 ^ (p + v) = mod-eq_of_lt small in
    record {
      sum = omega (arith, whole, bit, more, ge);
      fits = omega (arith, whole, bit, more, ge, bound);
      next = omega (arith, next, pe, ve);
    }

-- the guard bits of one lane in every lane
pub guards_spread : (ws : List ℕ) (b g o : ℕ) → b ≡ lane_bits ws → g ≡ lane_guards ws → o ≡ stacked b (replicate (64 / b) 1) → g * o ≡ guards_of ws
unfolding guards_of
guards_spread ws b g o be ge oe =
    let one : o ≡ stacked (lane_bits ws) (replicate (lane_count ws) 1) = oe ∙ ap (λ (t : ℕ). stacked t (replicate (64 / t) 1)) be in
    rw (ge, one) (sym (stacked_same (lane_bits ws) (lane_count ws) (lane_guards ws)))

pub guards_fit : (ws : List ℕ) (b g o : ℕ) → IsTrue (is_shape ws) → b ≡ lane_bits ws → g ≡ lane_guards ws → o ≡ stacked b (replicate (64 / b) 1) → g * o < 2 ^ 64
guards_fit ws b g o shape be ge oe =
    let one : o ≡ stacked (lane_bits ws) (replicate (lane_count ws) 1) = oe ∙ ap (λ (t : ℕ). stacked t (replicate (64 / t) 1)) be in
    let low : lane_guards ws < 2 ^ lane_bits ws = omega (arith, lane_guards_lt ws, pow-le-pow_right {n = 2} (lit≤ tt) (lane_fits ws shape)) in
    subst (λ (n : ℕ). n < 2 ^ 64) (rw (ge, one) refl) (spread_lt ws (lane_guards ws) shape low)

-- the top bit of one lane in every lane
pub tops_spread : (ws : List ℕ) (b t : ℕ) → b ≡ lane_bits ws → t ≡ stacked b (replicate (64 / b) (2 ^ (b - 1))) → t ≡ tops_of ws
unfolding tops_of
tops_spread ws b t be te = te ∙ ap (λ (b : ℕ). stacked b (replicate (64 / b) (2 ^ (b - 1)))) be
