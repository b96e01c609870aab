-- Marks read back from the word that has them.
use Rattle.std.proofs.Common.{ℕ, ◌+◌, ◌*◌, ◌/◌, ◌%◌, ◌^◌, ◌≡◌, ◌≤◌, ◌<◌, refl, arith, Bool, true, false, cond, eqb, zero, suc, List, [], ◌∷◌, map, lit≤, IsTrue}
use Rattle.std.proofs.lemmas.Nat.{pow_pos, pow-add, shr_high, mod_low, mul-le}
use Rattle.std.proofs.Math.Nat.{pow-le-pow_right}
use Rattle.masked_compare.specs.Fields.{fields_bits, is_shape, lane_bits, lane_count}
use Rattle.masked_compare.specs.Words.{stacked, lanes_in, codes_in, rows_in}
use Rattle.masked_compare.specs.Marks.{lane_marks, marks_in, marks_of, marked_in, inside_row, inside_rows, inside_of, IsMarkedLane, HasMarkedLanes, IsMarked}
use Rattle.masked_compare.proofs.FieldLemmas.{power_more, lane_fits}

mark_small : (w : ℕ) (b : Bool) → cond b 1 0 * 2 ^ w < 2 ^ (w + 1)
mark_small w true = let q : 2 ^ (w + 1) ≡ 2 ^ w * 2 ^ 1 = pow-add 2 w 1 in let p : 0 < 2 ^ w = pow_pos w in omega arith
mark_small w false = let p : 0 < 2 ^ (w + 1) = pow_pos (w + 1) in omega arith

pub lane_marks_lt : (ws : List ℕ) (bs : List Bool) → lane_marks ws bs < 2 ^ fields_bits ws
lane_marks_lt [] bs = omega arith
lane_marks_lt (w ∷ ws) [] = pow_pos (fields_bits (w ∷ ws))
lane_marks_lt (w ∷ ws) (b ∷ bs) =
    let h = lane_marks_lt ws bs in
    let q = power_more w ws in
    let g = mark_small w b in
    let m : (lane_marks ws bs + 1) * 2 ^ (w + 1) ≤ 2 ^ fields_bits ws * 2 ^ (w + 1) = mul-le (lane_marks ws bs + 1) (2 ^ (w + 1)) (2 ^ fields_bits ws) (2 ^ (w + 1)) (omega arith) (omega arith) in
    omega (arith, q, m)

-- the field of a mark
field_bit : (w X : ℕ) (b : Bool) → (X * 2 ^ (w + 1) + cond b 1 0 * 2 ^ w) / 2 ^ w % 2 ≡ cond b 1 0
field_bit w X b =
    let q : 2 ^ (w + 1) ≡ 2 ^ w * 2 ^ 1 = pow-add 2 w 1 in
    let e : X * 2 ^ (w + 1) + cond b 1 0 * 2 ^ w ≡ (X * 2 + cond b 1 0) * 2 ^ w + 0 = rw q (omega arith) in
    rw (e, shr_high (X * 2 + cond b 1 0) w 0 (pow_pos w)) (elim b as (λ v. (X * 2 + cond v 1 0) % 2 ≡ cond v 1 0) [ true ↦ omega arith | false ↦ omega arith ])

field_rest : (w X : ℕ) (b : Bool) → (X * 2 ^ (w + 1) + cond b 1 0 * 2 ^ w) / 2 ^ (w + 1) ≡ X
field_rest w X b = shr_high X (w + 1) (cond b 1 0 * 2 ^ w) (mark_small w b)

field_low : (w X : ℕ) (b : Bool) → (X * 2 ^ (w + 1) + cond b 1 0 * 2 ^ w) % 2 ^ w ≡ 0
field_low w X b =
    let q : 2 ^ (w + 1) ≡ 2 ^ w * 2 ^ 1 = pow-add 2 w 1 in
    let e : X * 2 ^ (w + 1) + cond b 1 0 * 2 ^ w ≡ (X * 2 + cond b 1 0) * 2 ^ w + 0 = rw q (omega arith) in
    rw e (mod_low (X * 2 + cond b 1 0) w 0 (pow_pos w))

-- as many marks as fields
abbrev pub Same : {A B : Type 0} → List A → List B → Type 0
Same [] [] = Unit {0}
Same [] (y ∷ ys) = ⊥
Same (x ∷ xs) [] = ⊥
Same (x ∷ xs) (y ∷ ys) = Same xs ys

pub lane_back : (ws : List ℕ) (bs : List Bool) → Same ws bs → IsMarkedLane ws (lane_marks ws bs) × (marks_in ws (lane_marks ws bs) ≡ bs)
lane_back [] [] h = (refl, refl)
lane_back [] (b ∷ bs) h = elim h [ ]
lane_back (w ∷ ws) [] h = elim h [ ]
lane_back (w ∷ ws) (b ∷ bs) h =
    let more = lane_back ws bs h in (
      (field_low w (lane_marks ws bs) b, rw (field_rest w (lane_marks ws bs) b) (more.0)),
      rw (field_bit w (lane_marks ws bs) b, field_rest w (lane_marks ws bs) b, more.1) (elim b as (λ v. (eqb (cond v 1 0) 1 ∷ bs) ≡ (v ∷ bs)) [ true ↦ refl | false ↦ refl ]),
    )

-- each row has as many marks as fields, and there are n rows
abbrev pub Rows : List ℕ → ℕ → List (List Bool) → Type 0
Rows ws zero [] = Unit {0}
Rows ws zero (r ∷ rs) = ⊥
Rows ws (suc n) [] = ⊥
Rows ws (suc n) (r ∷ rs) = Same ws r × Rows ws n rs

pub word_back : (ws : List ℕ) (t n : ℕ) (rs : List (List Bool)) → fields_bits ws ≤ t → Rows ws n rs → HasMarkedLanes ws t n (stacked t (map (lane_marks ws) rs)) × (map (marks_in ws) (lanes_in t n (stacked t (map (lane_marks ws) rs))) ≡ rs)
word_back ws t zero [] fit h = (tt, refl)
word_back ws t zero (r ∷ rs) fit h = elim h [ ]
word_back ws t (suc n) [] fit h = elim h [ ]
word_back ws t (suc n) (r ∷ rs) fit h =
    let X : ℕ = stacked t (map (lane_marks ws) rs) in
    let y : ℕ = lane_marks ws r in
    let yb : y < 2 ^ t = omega (arith, lane_marks_lt ws r, pow-le-pow_right {n = 2} (lit≤ tt) fit) in
    let one = lane_back ws r h.0 in
    let more = word_back ws t n rs fit h.1 in (
      (rw (mod_low X t y yb) (one.0), rw (shr_high X t y yb) (more.0)),
      rw (mod_low X t y yb, shr_high X t y yb, one.1, more.1) refl,
    )

same_lie : (ws : List ℕ) (x l h : ℕ) → Same ws (inside_row (codes_in ws l) (codes_in ws h) (codes_in ws x))
same_lie [] x l h = tt
same_lie (w ∷ ws) x l h = same_lie ws (x / 2 ^ (w + 1)) (l / 2 ^ (w + 1)) (h / 2 ^ (w + 1))

rows_lie : (ws : List ℕ) (t n x l h : ℕ) → Rows ws n (inside_rows (map (codes_in ws) (lanes_in t n l)) (map (codes_in ws) (lanes_in t n h)) (map (codes_in ws) (lanes_in t n x)))
rows_lie ws t zero x l h = tt
rows_lie ws t (suc n) x l h = (same_lie ws (x % 2 ^ t) (l % 2 ^ t) (h % 2 ^ t), rows_lie ws t n (x / 2 ^ t) (l / 2 ^ t) (h / 2 ^ t))

pub marks_back : (ws : List ℕ) (x l h : ℕ) → IsTrue (is_shape ws) → IsMarked ws (marks_of ws (inside_of ws x l h)) × (marked_in ws (marks_of ws (inside_of ws x l h)) ≡ inside_of ws x l h)
unfolding IsMarked marks_of marked_in inside_of rows_in
marks_back ws x l h shape =
    let lanes = λ (y : ℕ). map (codes_in ws) (lanes_in (lane_bits ws) (lane_count ws) y) in
    word_back ws (lane_bits ws) (lane_count ws) (inside_rows (lanes l) (lanes h) (lanes x)) (lane_fits ws shape) (rows_lie ws (lane_bits ws) (lane_count ws) x l h)
