-- The lane of a row, field by field.
use Rattle.std.proofs.Common.{ℕ, ◌+◌, ◌*◌, ◌%◌, ◌^◌, ◌≡◌, ◌≤◌, ◌<◌, refl, ◌∙◌, ap, arith, zero, suc, List, [], ◌∷◌, length, take, get_or, IsTrue}
use Rattle.std.proofs.Math.Nat.{mod-eq_of_lt}
use Rattle.std.proofs.lemmas.List.{take_all}
use Rattle.std.proofs.lemmas.List.Sums.{sum_by-take-le}
use Rattle.masked_compare.specs.Fields.{is_shape, field_bits, fields_bits}
use Rattle.masked_compare.specs.Words.{lane_of, IsRow}
use Rattle.masked_compare.proofs.ShapeLemmas.{fits_lane}
use Rattle.masked_compare.proofs.FieldLemmas.{power_more}
use Rattle.masked_compare.proofs.PlaceLemmas.{field_next}
use Rattle.masked_compare.proofs.WordLemmas.{lane_below}

pub row_length : (ws cs : List ℕ) → IsRow ws cs → length cs ≡ length ws
row_length [] cs h = ap length h
row_length (w ∷ ws) [] h = elim h [ ]
row_length (w ∷ ws) (c ∷ cs) h = ap suc (row_length ws cs h.1)

row_take : (ws cs : List ℕ) (i : ℕ) → IsRow ws cs → IsRow (take i ws) (take i cs)
row_take ws cs zero h = refl
row_take [] cs (suc i) h = ap (take (suc i)) h
row_take (w ∷ ws) [] (suc i) h = elim h [ ]
row_take (w ∷ ws) (c ∷ cs) (suc i) h = (h.0, row_take ws cs i h.1)

lane_next : (ws cs : List ℕ) (i : ℕ) → IsRow ws cs → i < length ws → lane_of (take (suc i) ws) (take (suc i) cs) ≡ get_or cs i 0 * 2 ^ fields_bits (take i ws) + lane_of (take i ws) (take i cs)
lane_next [] cs i h l = absurd (omega (arith, l))
lane_next (w ∷ ws) [] i h l = elim h [ ]
lane_next (w ∷ ws) (c ∷ cs) zero h l = omega arith
lane_next (w ∷ ws) (c ∷ cs) (suc i) h l =
    let more = lane_next ws cs i h.1 (omega (arith, l)) in
    rw (more, power_more w (take i ws)) (by (get_or cs i 0) (2 ^ fields_bits (take i ws)) (lane_of (take i ws) (take i cs)) (2 ^ (w + 1)) c)
  where
    by : (v p l q c : ℕ) → (v * p + l) * q + c ≡ v * (q * p) + (l * q + c)
    by v p l q c = grind arith

-- one field more of a lane
pub record LaneStep (ws cs : List ℕ) (i : ℕ) : Type 0 where
  pub lane : lane_of (take (i + 1) ws) (take (i + 1) cs) ≡ lane_of (take i ws) (take i cs) + get_or cs i 0 * 2 ^ fields_bits (take i ws)
  pub place : fields_bits (take (i + 1) ws) ≡ fields_bits (take i ws) + (get_or ws i 0 + 1)
  pub small : lane_of (take i ws) (take i cs) + get_or cs i 0 * 2 ^ fields_bits (take i ws) < 2 ^ 32
  pub low : fields_bits (take i ws) + (get_or ws i 0 + 1) ≤ 32

pub lane_step : (ws cs : List ℕ) (i : ℕ) → IsTrue (is_shape ws) → IsRow ws cs → i < length ws → LaneStep ws cs i
lane_step ws cs i shape h l =
    let one : i + 1 ≡ suc i = omega arith in
    let lane : lane_of (take (i + 1) ws) (take (i + 1) cs) ≡ lane_of (take i ws) (take i cs) + get_or cs i 0 * 2 ^ fields_bits (take i ws)
    = ap (λ (n : ℕ). lane_of (take n ws) (take n cs)) one ∙ (lane_next ws cs i h l ∙ omega arith) in
    let place : fields_bits (take (i + 1) ws) ≡ fields_bits (take i ws) + (get_or ws i 0 + 1) = ap (λ (n : ℕ). fields_bits (take n ws)) one ∙ field_next ws i l in
    let fit : fields_bits (take (i + 1) ws) ≤ 32 = omega (arith, sum_by-take-le field_bits ws (i + 1), fits_lane ws shape) in
    record {
      lane = lane;
      place = place;
      small = rw (← lane) (lane_below (take (i + 1) ws) (take (i + 1) cs) 32 fit (row_take ws cs (i + 1) h));
      low = omega (arith, place, fit);
    }

-- the same as the loop has it
pub record LaneLoop (ws cs : List ℕ) (i a p v u : ℕ) : Type 0 where
  pub inside : i < length cs
  pub sum : a + v * 2 ^ p % 2 ^ 64 ≡ lane_of (take (i + 1) ws) (take (i + 1) cs)
  pub fits : a + v * 2 ^ p % 2 ^ 64 < 2 ^ 64
  pub next : p + (u + 1) ≡ fields_bits (take (i + 1) ws)

pub lane_loop : (ws vs cs : List ℕ) (i a p v u : ℕ) → vs ≡ ws → IsTrue (is_shape ws) → IsRow ws cs → i < length vs → a ≡ lane_of (take i ws) (take i cs) → p ≡ fields_bits (take i ws) → v ≡ get_or cs i 0 → u ≡ get_or vs i 0 → LaneLoop ws cs i a p v u
lane_loop ws vs cs i a p v u e shape h l ae pe ve ue =
    let len : length vs ≡ length ws = ap length e in
    let step = lane_step ws cs i shape h (omega (arith, l, len)) in
    let ue' : u ≡ get_or ws i 0 = ue ∙ ap (λ (xs : List ℕ). get_or xs i 0) e in
    let prod : v * 2 ^ p ≡ get_or cs i 0 * 2 ^ fields_bits (take i ws) = rw (ve, pe) refl in
    let small : v * 2 ^ p < 2 ^ 64 = omega (arith, step.small, prod) in
    let whole : v * 2 ^ p % 2 ^ 64 ≡ v * 2 ^ p = mod-eq_of_lt small in
    record {
      inside = omega (arith, l, len, row_length ws cs h);
      sum = omega (arith, whole, step.lane, ae, prod);
      fits = omega (arith, whole, step.small, ae, prod);
      next = omega (arith, step.place, pe, ue');
    }

pub lane_end : (ws vs cs : List ℕ) (i a : ℕ) → vs ≡ ws → IsRow ws cs → length vs ≤ i → a ≡ lane_of (take i ws) (take i cs) → a ≡ lane_of ws cs
lane_end ws vs cs i a e h l ae =
    let len : length vs ≡ length ws = ap length e in
    let one : take i ws ≡ ws = take_all i ws (omega (arith, l, len)) in
    let two : take i cs ≡ cs = take_all i cs (omega (arith, l, len, row_length ws cs h)) in
    ae ∙ (ap (λ (xs : List ℕ). lane_of xs (take i cs)) one ∙ ap (lane_of ws) two)
