-- Lanes that lie outside two rounds.
use Rattle.std.proofs.Common.{ℕ, ◌+◌, ◌-◌, ◌*◌, ◌^◌, ◌≡◌, ◌<◌, refl, sym, ◌∙◌, ap, arith, Bool, true, false, cond, ◌&&◌, zero, suc, List, [], ◌∷◌, length, map, replicate, bit_and, IsTrue, get_or, take, ◌++◌}
use Rattle.std.specs.Simd.Lanes.{zip2}
use Rattle.std.proofs.lemmas.Simd.{zip2_of_maps}
use Rattle.std.proofs.lemmas.Nat.{and_block, pow_pos, pow_below}
use Rattle.std.specs.Int.Bits.{and_zero_l, and_zero_r, and_self}
use Rattle.masked_compare.specs.Fields.{is_shape, lane_bits, lane_count}
use Rattle.masked_compare.specs.Words.{stacked}
use Rattle.masked_compare.specs.Marks.{tops_of, tops_where}
use Rattle.masked_compare.specs.Rounds.{both_true, outside_of, outside_rounds}
use Rattle.masked_compare.specs.declared.round.Round.{Round}
use Rattle.masked_compare.proofs.FieldLemmas.{lane_some}

one_lane : (h : ℕ) (a b : Bool) → bit_and (cond a h 0) (cond b h 0) ≡ cond (a && b) h 0
one_lane h true true = and_self h
one_lane h true false = and_zero_r h
one_lane h false true = and_zero_l h
one_lane h false false = refl

lane_below : (k h : ℕ) (a : Bool) → h < 2 ^ k → cond a h 0 < 2 ^ k
lane_below k h true l = l
lane_below k h false l = pow_pos k

pub stacked_both : (k h : ℕ) (as_ bs : List Bool) → h < 2 ^ k → bit_and (stacked k (map (λ b. cond b h 0) as_)) (stacked k (map (λ b. cond b h 0) bs)) ≡ stacked k (map (λ b. cond b h 0) (both_true as_ bs))
stacked_both k h [] bs l = and_zero_l (stacked k (map (λ b. cond b h 0) bs))
stacked_both k h (a ∷ as_) [] l = and_zero_r (stacked k (map (λ b. cond b h 0) (a ∷ as_)))
stacked_both k h (a ∷ as_) (b ∷ bs) l =
    and_block k (stacked k (map (λ b. cond b h 0) as_)) (stacked k (map (λ b. cond b h 0) bs)) (cond a h 0) (cond b h 0) (lane_below k h a l) (lane_below k h b l)
    ∙ rw (stacked_both k h as_ bs l, one_lane h a b) refl

top_below : (t : ℕ) → 0 < t → 2 ^ (t - 1) < 2 ^ t
top_below t z = pow_below (t - 1) t (omega arith)

pub tops_both : (ws : List ℕ) (as_ bs : List Bool) → IsTrue (is_shape ws) → bit_and (tops_where ws as_) (tops_where ws bs) ≡ tops_where ws (both_true as_ bs)
unfolding tops_where
tops_both ws as_ bs s = stacked_both (lane_bits ws) (2 ^ (lane_bits ws - 1)) as_ bs (top_below (lane_bits ws) (lane_some ws s))

all_true : (k h n : ℕ) → stacked k (replicate n h) ≡ stacked k (map (λ b. cond b h 0) (replicate n true))
all_true k h zero = refl
all_true k h (suc n) = ap (λ z. z * 2 ^ k + h) (all_true k h n)

pub tops_all : (ws : List ℕ) → tops_of ws ≡ tops_where ws (replicate (lane_count ws) true)
unfolding tops_of tops_where
tops_all ws = all_true (lane_bits ws) (2 ^ (lane_bits ws - 1)) (lane_count ws)

pub map_same : (f g : ℕ → ℕ) (xs : List ℕ) → ((x : ℕ) → f x ≡ g x) → map f xs ≡ map g xs
map_same f g [] e = refl
map_same f g (x ∷ xs) e = rw (e x, map_same f g xs e) refl

pub joint : (ws : List ℕ) (f g : ℕ → List Bool) (xs as_ bs : List ℕ) → IsTrue (is_shape ws) → as_ ≡ map (λ w. tops_where ws (f w)) xs → bs ≡ map (λ w. tops_where ws (g w)) xs → zip2 bit_and as_ bs ≡ map (λ w. tops_where ws (both_true (f w) (g w))) xs
joint ws f g xs as_ bs s a b =
    zip2_of_maps bit_and (λ w. tops_where ws (f w)) (λ w. tops_where ws (g w)) xs a b
    ∙ map_same (λ w. bit_and (tops_where ws (f w)) (tops_where ws (g w))) (λ w. tops_where ws (both_true (f w) (g w))) xs (λ w. tops_both ws (f w) (g w) s)

both_swap : (as_ bs cs : List Bool) → both_true (both_true as_ bs) cs ≡ both_true (both_true as_ cs) bs
both_swap [] bs cs = refl
both_swap (a ∷ as_) [] [] = refl
both_swap (a ∷ as_) [] (c ∷ cs) = refl
both_swap (a ∷ as_) (b ∷ bs) [] = refl
both_swap (a ∷ as_) (b ∷ bs) (c ∷ cs) = rw (and_swap a b c, both_swap as_ bs cs) refl
  where
    and_swap : (a b c : Bool) → ((a && b) && c) ≡ ((a && c) && b)
    and_swap true true true = refl
    and_swap true true false = refl
    and_swap true false true = refl
    and_swap true false false = refl
    and_swap false b c = refl

-- one round more
pub outside_more : (ws : List ℕ) (rounds : List Round) (r : Round) (x : ℕ) → outside_rounds ws (rounds ++ r ∷ []) x ≡ both_true (outside_rounds ws rounds x) (outside_of ws x r.low r.high)
outside_more ws [] r x = refl
outside_more ws (first ∷ rounds) r x =
    ap (λ lanes. both_true lanes (outside_of ws x first.low first.high)) (outside_more ws rounds r x)
    ∙ both_swap (outside_rounds ws rounds x) (outside_of ws x r.low r.high) (outside_of ws x first.low first.high)

take_next : (rs : List Round) (i : ℕ) (d : Round) → i < length rs → take (suc i) rs ≡ take i rs ++ get_or rs i d ∷ []
take_next [] i d h = absurd (omega arith)
take_next (r ∷ rs) zero d h = refl
take_next (r ∷ rs) (suc i) d h = ap (λ z. r ∷ z) (take_next rs i d (omega arith))

pub outside_next : (ws : List ℕ) (rounds : List Round) (r : Round) (i x : ℕ) → i < length rounds → outside_rounds ws (take (i + 1) rounds) x ≡ both_true (outside_rounds ws (take i rounds) x) (outside_of ws x (get_or rounds i r).low (get_or rounds i r).high)
outside_next ws rounds r i x h =
    let one : i + 1 ≡ suc i = omega arith in
    ap (λ n. outside_rounds ws (take n rounds) x) one
    ∙ (ap (λ rs. outside_rounds ws rs x) (take_next rounds i r h)
    ∙ outside_more ws (take i rounds) (get_or rounds i r) x)

pub word_step : (ws : List ℕ) (rounds : List Round) (r : Round) (i a b x : ℕ) → IsTrue (is_shape ws) → i < length rounds → a ≡ tops_where ws (outside_rounds ws (take i rounds) x) → b ≡ tops_where ws (outside_of ws x (get_or rounds i r).low (get_or rounds i r).high) → bit_and a b ≡ tops_where ws (outside_rounds ws (take (i + 1) rounds) x)
word_step ws rounds r i a b x s h ae be =
    rw (ae, be) (tops_both ws (outside_rounds ws (take i rounds) x) (outside_of ws x (get_or rounds i r).low (get_or rounds i r).high) s ∙ ap (tops_where ws) (sym (outside_next ws rounds r i x h)))

pub words_step : (ws : List ℕ) (rounds : List Round) (r : Round) (i : ℕ) (xs as_ bs : List ℕ) → IsTrue (is_shape ws) → i < length rounds → as_ ≡ map (λ w. tops_where ws (outside_rounds ws (take i rounds) w)) xs → bs ≡ map (λ w. tops_where ws (outside_of ws w (get_or rounds i r).low (get_or rounds i r).high)) xs → zip2 bit_and as_ bs ≡ map (λ w. tops_where ws (outside_rounds ws (take (i + 1) rounds) w)) xs
words_step ws rounds r i xs as_ bs s h a b =
    joint ws (λ w. outside_rounds ws (take i rounds) w) (λ w. outside_of ws w (get_or rounds i r).low (get_or rounds i r).high) xs as_ bs s a b
    ∙ map_same (λ w. tops_where ws (both_true (outside_rounds ws (take i rounds) w) (outside_of ws w (get_or rounds i r).low (get_or rounds i r).high))) (λ w. tops_where ws (outside_rounds ws (take (i + 1) rounds) w)) xs
    (λ w. ap (tops_where ws) (sym (outside_next ws rounds r i w h)))
