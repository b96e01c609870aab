-- The bits of words by their places.
use Rattle.std.proofs.Common.{◌≡◌, ℕ, zero, suc, ◌+◌, ◌-◌, ◌*◌, ◌/◌, ◌%◌, ◌^◌, ◌<◌, ◌≤◌, ◌==◌, Bool, true, false, ◌&&◌, ◌||◌, List, ◌∷◌, ◌++◌, map, length, get_or, set, count_by, cond, min, max, bit_and, bit_or, refl, sym, ap, ◌∙◌, arith, inl, inr, ◌⊎◌}
use mir.Syntax.{w64}
use mir.Val.{bool_byte}
use native.Mathlib.Nat.{pow-suc}
use lib.Pow.{pow_mono}
use Rattle.std.specs.Int.{bit_at}
use Rattle.std.proofs.lemmas.Bool.{eq-eqb, ne_eqb, cases_eq, cases_lt}
use Rattle.std.proofs.lemmas.List.{get_or_past, get_or-set_same, get_or-set_other}
use Rattle.std.proofs.lemmas.List.Sums.{sum_by-append}
use Rattle.std.proofs.lemmas.Nat.Bits.{bit_at-zero, bit_at-lt, bit_at_and, bit_at_or, bit_at_not, bit_at_mask_inside, bit_at_mask_below, bit_at_mask_above}
use Rattle.std.specs.Int.RustNames.{count_ones}
use Rattle.blink_lists.specs.Lists.{numbers_from}
use Rattle.blink_lists.proofs.NumberLemmas.{numbers-at, length-numbers}
use Rattle.row_bits.proofs.BitLemmas.{ones_counted}
use Rattle.row_bits.specs.Bits.{is_set, bits_of}

-- a place in its word
pub at_word : (at bit k : ℕ) → k ≡ at * 64 + bit → bit < 64 → k / 64 ≡ at
at_word at bit k e lt = omega arith

pub at_bit : (at bit k : ℕ) → k ≡ at * 64 + bit → bit < 64 → k % 64 ≡ bit
at_bit at bit k e lt = omega arith

pub set_at : (words : List ℕ) (at bit k : ℕ) → k ≡ at * 64 + bit → bit < 64 → is_set words k ≡ (bit_at (get_or words at 0) bit == 1)
unfolding is_set
set_at words at bit k e lt = rw (at_word at bit k e lt, at_bit at bit k e lt) refl

pub set_here : (words : List ℕ) (at bit k : ℕ) → k ≡ at * 64 + bit → bit < 64 → bit_at (get_or words at 0) bit ≡ 1 → is_set words k ≡ true
set_here words at bit k e lt one = set_at words at bit k e lt ∙ eq-eqb (bit_at (get_or words at 0) bit) 1 one

pub clear_here : (words : List ℕ) (at bit k : ℕ) → k ≡ at * 64 + bit → bit < 64 → bit_at (get_or words at 0) bit ≡ 0 → is_set words k ≡ false
clear_here words at bit k e lt none = set_at words at bit k e lt ∙ ne_eqb (bit_at (get_or words at 0) bit) 1 (λ one. omega arith)

-- no place behind the last word is set
pub clear_behind : (words : List ℕ) (k : ℕ) → length words * 64 ≤ k → is_set words k ≡ false
unfolding is_set
clear_behind words k le =
    let past : length words ≤ k / 64 = omega arith in
    rw (get_or_past words (k / 64) 0 past, bit_at-zero (k % 64)) refl

-- ---- a search, word by word

-- places up to a bit of a word that are alike: those before the word, and its bits
pub alike_to_bit : (words : List ℕ) (same : Bool) (from at low bit : ℕ) → low ≡ from - at * 64 → bit ≤ 64 → ((k : ℕ) → from ≤ k → k < at * 64 → is_set words k ≡ same)
    → ((b : ℕ) → low ≤ b → b < bit → (bit_at (get_or words at 0) b == 1) ≡ same) → (k : ℕ) → from ≤ k → k < at * 64 + bit → is_set words k ≡ same
alike_to_bit words same from at low bit e within before bits k le lt =
    elim (cases_lt k (at * 64)) [
      | inl front ↦ before k le front
      | inr here ↦ set_at words at (k - at * 64) k (omega arith) (omega arith) ∙ bits (k - at * 64) (omega (arith, e, le)) (omega arith)
    ]

-- a bit that is 1, and one that is 0
pub one_bit : (v : ℕ) → v ≡ 1 → (v == 1) ≡ true
one_bit v one = eq-eqb v 1 one

pub zero_bit : (v : ℕ) → v ≡ 0 → (v == 1) ≡ false
zero_bit v none = ne_eqb v 1 (λ one. omega arith)

pub none_to_end : (words : List ℕ) (from to : ℕ) → length words * 64 ≤ to → ((k : ℕ) → from ≤ k → k < to → is_set words k ≡ false) → (k : ℕ) → from ≤ k → is_set words k ≡ false
none_to_end words from to end before k le =
    elim (cases_lt k to) [ inl front ↦ before k le front | inr behind ↦ clear_behind words k (omega (arith, end, behind)) ]

-- ---- a word written at its place

pub other_word : (words : List ℕ) (at w k : ℕ) → (k / 64 ≡ at → ⊥) → is_set (set words at w) k ≡ is_set words k
unfolding is_set
other_word words at w k ne = rw (get_or-set_other words at (k / 64) w 0 ne) refl

pub same_word : (words : List ℕ) (at w bit k : ℕ) → at < length words → k ≡ at * 64 + bit → bit < 64 → is_set (set words at w) k ≡ (bit_at w bit == 1)
same_word words at w bit k there e lt = set_at (set words at w) at bit k e lt ∙ ap (λ v. bit_at v bit == 1) (get_or-set_same words at w 0 there)

or_set : (words : List ℕ) (at m bit k : ℕ) → at < length words → k ≡ at * 64 + bit → bit < 64 → bit_at m bit ≡ 1 → is_set (set words at (bit_or (get_or words at 0) m)) k ≡ true
or_set words at m bit k there e lt one =
    let w = get_or words at 0 in
    let small = bit_at-lt w bit in
    same_word words at (bit_or w m) bit k there e lt ∙ eq-eqb (bit_at (bit_or w m) bit) 1 (bit_at_or w m bit ∙ ap (λ b. max (bit_at w bit) b) one ∙ omega arith)

or_same : (words : List ℕ) (at m bit k : ℕ) → at < length words → k ≡ at * 64 + bit → bit < 64 → bit_at m bit ≡ 0 → is_set (set words at (bit_or (get_or words at 0) m)) k ≡ is_set words k
or_same words at m bit k there e lt none =
    let w = get_or words at 0 in
    let same : max (bit_at w bit) 0 ≡ bit_at w bit = omega arith in
    same_word words at (bit_or w m) bit k there e lt ∙ ap (λ b. b == 1) (bit_at_or w m bit ∙ ap (λ b. max (bit_at w bit) b) none ∙ same) ∙ sym (set_at words at bit k e lt)

-- a word with one bit put
abbrev pub with_bit : ℕ → ℕ → ℕ → ℕ
with_bit w x bit = bit_or (bit_and w (18446744073709551615 - 1 * 2 ^ bit % 18446744073709551616)) (x * 2 ^ bit % 18446744073709551616)

single : (x bit : ℕ) → bit < 64 → x ≡ 1 → x * 2 ^ bit % 18446744073709551616 ≡ 2 ^ suc bit - 2 ^ bit
single x bit lt one = let le : bit ≤ 63 = omega (arith, lt) in let small : 2 ^ bit ≤ 2 ^ 63 = pow_mono le in let twice = pow-suc 2 bit in rw one (omega (arith, small, twice))

none : (x bit : ℕ) → x ≡ 0 → x * 2 ^ bit % 18446744073709551616 ≡ 0
none x bit e = let zeros : x * 2 ^ bit ≡ 0 = ap (λ n. n * 2 ^ bit) e ∙ omega arith in omega (arith, zeros)

single_fits : (bit : ℕ) → 1 * 2 ^ bit % 18446744073709551616 < 2 ^ 64
single_fits bit = omega arith

with_bit_at : (w x bit b : ℕ) → b < 64 → bit_at (with_bit w x bit) b ≡ max (min (bit_at w b) (1 - bit_at (1 * 2 ^ bit % 18446744073709551616) b)) (bit_at (x * 2 ^ bit % 18446744073709551616) b)
with_bit_at w x bit b lt =
    let m = 1 * 2 ^ bit % 18446744073709551616 in
    let n = x * 2 ^ bit % 18446744073709551616 in
    bit_at_or (bit_and w (18446744073709551615 - m)) n b
    ∙ ap (λ k. max k (bit_at n b)) (bit_at_and w (18446744073709551615 - m) b ∙ ap (λ k. min (bit_at w b) k) (bit_at_not w64 m b (single_fits bit) lt))

-- the bit that is put
bit_put : (value : Bool) (w x bit : ℕ) → bit < 64 → x ≡ bool_byte value → (bit_at (with_bit w x bit) bit == 1) ≡ value
bit_put true w x bit lt e =
    let there : bit_at (x * 2 ^ bit % 18446744073709551616) bit ≡ 1 = ap (λ n. bit_at n bit) (single x bit lt e) ∙ bit_at_mask_inside bit (suc bit) bit (omega arith) (omega arith) in
    let here : bit_at (1 * 2 ^ bit % 18446744073709551616) bit ≡ 1 = ap (λ n. bit_at n bit) (single 1 bit lt refl) ∙ bit_at_mask_inside bit (suc bit) bit (omega arith) (omega arith) in
    eq-eqb (bit_at (with_bit w x bit) bit) 1 (omega (arith, with_bit_at w x bit bit lt, there, here))
bit_put false w x bit lt e =
    let there : bit_at (x * 2 ^ bit % 18446744073709551616) bit ≡ 0 = ap (λ n. bit_at n bit) (none x bit e) ∙ bit_at-zero bit in
    let here : bit_at (1 * 2 ^ bit % 18446744073709551616) bit ≡ 1 = ap (λ n. bit_at n bit) (single 1 bit lt refl) ∙ bit_at_mask_inside bit (suc bit) bit (omega arith) (omega arith) in
    ne_eqb (bit_at (with_bit w x bit) bit) 1 (λ one. omega (arith, with_bit_at w x bit bit lt, there, here, one))

-- no other bit is there
no_other : (x bit b : ℕ) → bit < 64 → x < 2 → (b ≡ bit → ⊥) → bit_at (x * 2 ^ bit % 18446744073709551616) b ≡ 0
no_other zero bit b lt in2 ne = ap (λ n. bit_at n b) (none zero bit refl) ∙ bit_at-zero b
no_other (suc zero) bit b lt in2 ne =
    ap (λ n. bit_at n b) (single 1 bit lt refl) ∙ elim (cases_lt b bit) [ inl under ↦ bit_at_mask_below bit (suc bit) b under | inr le ↦ bit_at_mask_above bit (suc bit) b (omega (arith, le, ne)) ]
no_other (suc (suc x)) bit b lt in2 ne = absurd (omega (arith, in2))

-- the other bits stay
bit_stays : (w x bit b : ℕ) → bit < 64 → b < 64 → x < 2 → (b ≡ bit → ⊥) → bit_at (with_bit w x bit) b ≡ bit_at w b
bit_stays w x bit b lt in64 in2 ne =
    let small = bit_at-lt w b in
    omega (arith, with_bit_at w x bit b in64, no_other x bit b lt in2 ne, no_other 1 bit b lt (omega arith) ne, small)

pub put_here : (value : Bool) (words : List ℕ) (x place : ℕ) → place < length words * 64 → x ≡ bool_byte value
    → is_set (set words (place / 64) (with_bit (get_or words (place / 64) 0) x (place % 64))) place ≡ value
put_here value words x place lt e =
    same_word words (place / 64) (with_bit (get_or words (place / 64) 0) x (place % 64)) (place % 64) place (omega (arith, lt)) (omega arith) (omega arith)
    ∙ bit_put value (get_or words (place / 64) 0) x (place % 64) (omega arith) e

byte_small : (value : Bool) → bool_byte value < 2
byte_small true = omega arith
byte_small false = omega arith

pub put_elsewhere : (value : Bool) (words : List ℕ) (x place k : ℕ) → place < length words * 64 → x ≡ bool_byte value → (k ≡ place → ⊥)
    → is_set (set words (place / 64) (with_bit (get_or words (place / 64) 0) x (place % 64))) k ≡ is_set words k
put_elsewhere value words x place k lt e ne =
    let w = with_bit (get_or words (place / 64) 0) x (place % 64) in
    elim (cases_eq (k / 64) (place / 64)) [
      | inl here ↦
          same_word words (place / 64) w (k % 64) k (omega (arith, lt)) (omega (arith, here)) (omega arith)
          ∙ ap (λ b. b == 1) (bit_stays (get_or words (place / 64) 0) x (place % 64) (k % 64) (omega arith) (omega arith) (omega (arith, e, byte_small value)) (λ same. ne (omega (arith, here, same))))
          ∙ sym (set_at words (place / 64) (k % 64) k (omega (arith, here)) (omega arith))
      | inr other ↦ other_word words (place / 64) w k other
    ]

-- the places from low up to high are set as far as `to`, the others are as they were
pub record Filled (old new : List ℕ) (low high to : ℕ) : Type 0 where
  pub inside : (k : ℕ) → low ≤ k → k < high → k < to → is_set new k ≡ true
  pub below : (k : ℕ) → k < low → is_set new k ≡ is_set old k
  pub above : (k : ℕ) → high ≤ k → is_set new k ≡ is_set old k
  pub rest : (k : ℕ) → to ≤ k → is_set new k ≡ is_set old k

pub filled_more : (old new : List ℕ) (low high at m from to : ℕ) → at < length new → from ≡ low - at * 64 → to ≡ min (high - at * 64) 64 → m ≡ 2 ^ to - 2 ^ from
    → Filled old new low high (at * 64) → Filled old (set new at (bit_or (get_or new at 0) m)) low high ((at + 1) * 64)
filled_more old new low high at m from to there e f is before =
    let w = bit_or (get_or new at 0) m in
    record {
      inside = λ k le lt near. elim (cases_eq (k / 64) at) [
        | inl here ↦ or_set new at m (k % 64) k there (omega (arith, here)) (omega arith) (ap (λ n. bit_at n (k % 64)) is ∙ bit_at_mask_inside from to (k % 64) (omega (arith, e, here, le)) (omega (arith, f, here, lt)))
        | inr ne ↦ other_word new at w k ne ∙ before.inside k le lt (omega (arith, ne, near))
      ];
      below = λ k lt. elim (cases_eq (k / 64) at) [
        | inl here ↦ or_same new at m (k % 64) k there (omega (arith, here)) (omega arith) (ap (λ n. bit_at n (k % 64)) is ∙ bit_at_mask_below from to (k % 64) (omega (arith, e, here, lt))) ∙ before.below k lt
        | inr ne ↦ other_word new at w k ne ∙ before.below k lt
      ];
      above = λ k le. elim (cases_eq (k / 64) at) [
        | inl here ↦ or_same new at m (k % 64) k there (omega (arith, here)) (omega arith) (ap (λ n. bit_at n (k % 64)) is ∙ bit_at_mask_above from to (k % 64) (omega (arith, f, here, le))) ∙ before.above k le
        | inr ne ↦ other_word new at w k ne ∙ before.above k le
      ];
      rest = λ k le. other_word new at w k (λ here. omega (arith, here, le)) ∙ before.rest k (omega (arith, le));
    }

-- ---- place by place

min_both : (a b : ℕ) → a < 2 → b < 2 → (min a b == 1) ≡ ((a == 1) && (b == 1))
min_both zero zero lt in2 = refl
min_both zero (suc zero) lt in2 = refl
min_both zero (suc (suc b)) lt in2 = absurd (omega arith)
min_both (suc zero) zero lt in2 = refl
min_both (suc zero) (suc zero) lt in2 = refl
min_both (suc zero) (suc (suc b)) lt in2 = absurd (omega arith)
min_both (suc (suc a)) b lt in2 = absurd (omega arith)

pub max_some : (a b : ℕ) → a < 2 → b < 2 → (max a b == 1) ≡ ((a == 1) || (b == 1))
max_some zero zero lt in2 = refl
max_some zero (suc zero) lt in2 = refl
max_some zero (suc (suc b)) lt in2 = absurd (omega arith)
max_some (suc zero) zero lt in2 = refl
max_some (suc zero) (suc zero) lt in2 = refl
max_some (suc zero) (suc (suc b)) lt in2 = absurd (omega arith)
max_some (suc (suc a)) b lt in2 = absurd (omega arith)

-- the places below `to` are joined by an operation, the others as they were
pub record Joined (op : Bool → Bool → Bool) (old other new : List ℕ) (to : ℕ) : Type 0 where
  pub joined : (k : ℕ) → k < to → is_set new k ≡ op (is_set old k) (is_set other k)
  pub rest : (k : ℕ) → to ≤ k → is_set new k ≡ is_set old k

joined_more : (op : Bool → Bool → Bool) (old other new : List ℕ) (at w : ℕ) → at < length new
    → ((bit : ℕ) → bit < 64 → (bit_at w bit == 1) ≡ op (bit_at (get_or new at 0) bit == 1) (bit_at (get_or other at 0) bit == 1))
    → Joined op old other new (at * 64) → Joined op old other (set new at w) ((at + 1) * 64)
joined_more op old other new at w there each before = record {
  joined = λ k lt. elim (cases_eq (k / 64) at) [
    | inl here ↦
        let e : k ≡ at * 64 + k % 64 = omega (arith, here) in
        let s : k % 64 < 64 = omega arith in
        same_word new at w (k % 64) k there e s ∙ each (k % 64) s
        ∙ ap (λ b. op b (bit_at (get_or other at 0) (k % 64) == 1)) (sym (set_at new at (k % 64) k e s) ∙ before.rest k (omega (arith, here)))
        ∙ ap (λ b. op (is_set old k) b) (sym (set_at other at (k % 64) k e s))
    | inr ne ↦ other_word new at w k ne ∙ before.joined k (omega (arith, ne, lt))
  ];
  rest = λ k le. other_word new at w k (λ here. omega (arith, here, le)) ∙ before.rest k (omega (arith, le));
}

pub and_more : (old other new : List ℕ) (at : ℕ) → at < length new → Joined (λ a b. a && b) old other new (at * 64)
    → Joined (λ a b. a && b) old other (set new at (bit_and (get_or new at 0) (get_or other at 0))) ((at + 1) * 64)
and_more old other new at there before =
    let x = get_or new at 0 in
    let y = get_or other at 0 in
    joined_more (λ a b. a && b) old other new at (bit_and x y) there (λ bit lt. ap (λ n. n == 1) (bit_at_and x y bit) ∙ min_both (bit_at x bit) (bit_at y bit) (bit_at-lt x bit) (bit_at-lt y bit)) before

pub or_more : (old other new : List ℕ) (at : ℕ) → at < length new → Joined (λ a b. a || b) old other new (at * 64)
    → Joined (λ a b. a || b) old other (set new at (bit_or (get_or new at 0) (get_or other at 0))) ((at + 1) * 64)
or_more old other new at there before =
    let x = get_or new at 0 in
    let y = get_or other at 0 in
    joined_more (λ a b. a || b) old other new at (bit_or x y) there (λ bit lt. ap (λ n. n == 1) (bit_at_or x y bit) ∙ max_some (bit_at x bit) (bit_at y bit) (bit_at-lt x bit) (bit_at-lt y bit)) before

pub joined_all : (op : Bool → Bool → Bool) (old other new : List ℕ) (to : ℕ) → op false false ≡ false → length old * 64 ≤ to → length other ≡ length old
    → Joined op old other new to → (k : ℕ) → is_set new k ≡ op (is_set old k) (is_set other k)
joined_all op old other new to none end same before k =
    elim (cases_lt k to) [
      | inl front ↦ before.joined k front
      | inr behind ↦
          let a = clear_behind old k (omega (arith, end, behind)) in
          let b = clear_behind other k (omega (arith, end, behind, same)) in
          before.rest k behind ∙ a ∙ sym none ∙ (λ i. op (sym a i) (sym b i))
    ]

pub or_none : (b : Bool) → (b || false) ≡ b
or_none true = refl
or_none false = refl

-- as far as both go, where nothing is added behind the other
pub added_all : (old other new : List ℕ) (to k : ℕ) → length new ≡ length old → (length old ≤ to) ⊎ (length other ≤ to) → Joined (λ a b. a || b) old other new (to * 64) → k < length old * 64
    → is_set new k ≡ (is_set old k || is_set other k)
added_all old other new to k same end before lt =
    elim (cases_lt k (to * 64)) [
      | inl front ↦ before.joined k front
      | inr behind ↦
          let past : length other * 64 ≤ k = elim end [ inl all ↦ absurd (omega (arith, all, behind, lt)) | inr le ↦ omega (arith, le, behind) ] in
          before.rest k behind ∙ sym (ap (λ b. is_set old k || b) (clear_behind other k past) ∙ or_none (is_set old k))
    ]

-- ---- the truth values of places

pub length_bits : (n : ℕ) (words : List ℕ) → length (bits_of n words) ≡ n
unfolding bits_of
length_bits n words = length-numbers (is_set words) 0 n

pub bits_at : (n : ℕ) (words : List ℕ) (k : ℕ) (d : Bool) → k < n → get_or (bits_of n words) k d ≡ is_set words k
unfolding bits_of
bits_at n words k d lt = let e : 0 + k ≡ k = omega arith in numbers-at (is_set words) 0 n k d lt ∙ ap (is_set words) e

-- ---- how many are set

numbers_split : {X : Type 0} (f : ℕ → X) (a m n : ℕ) → map f (numbers_from a (m + n)) ≡ map f (numbers_from a m) ++ map f (numbers_from (a + m) n)
numbers_split f a zero n = let e : 0 + n ≡ n = omega arith in let g : a ≡ a + 0 = omega arith in ap (λ k. map f (numbers_from a k)) e ∙ ap (λ k. map f (numbers_from k n)) g
numbers_split f a (suc m) n =
    let e : suc m + n ≡ suc (m + n) = omega arith in
    let g : (a + 1) + m ≡ a + suc m = omega arith in
    ap (λ k. map f (numbers_from a k)) e ∙ ap (λ l. f a ∷ l) (numbers_split f (a + 1) m n) ∙ ap (λ k. f a ∷ map f (numbers_from (a + 1) m) ++ map f (numbers_from k n)) g

pub count_more : (words : List ℕ) (at : ℕ) → get_or words at 0 < 2 ^ 64 → count_by (λ b. b) (bits_of ((at + 1) * 64) words) ≡ count_by (λ b. b) (bits_of (at * 64) words) + count_ones (get_or words at 0)
unfolding bits_of
count_more words at fits =
    let e : (at + 1) * 64 ≡ at * 64 + 64 = omega arith in
    let z : 0 + at * 64 ≡ at * 64 = omega arith in
    ap (λ n. count_by (λ b. b) (map (is_set words) (numbers_from 0 n))) e
    ∙ ap (count_by (λ b. b)) (numbers_split (is_set words) 0 (at * 64) 64)
    ∙ sum_by-append (λ (b : Bool). cond b 1 0) (map (is_set words) (numbers_from 0 (at * 64))) (map (is_set words) (numbers_from (0 + at * 64) 64))
    ∙ ap (λ n. count_by (λ b. b) (map (is_set words) (numbers_from 0 (at * 64))) + n)
    (ap (λ a. count_by (λ b. b) (map (is_set words) (numbers_from a 64))) z ∙ ones_counted 64 (get_or words at 0) (at * 64) (is_set words) fits (λ i lt. set_at words at i (at * 64 + i) refl lt))

pub none_counted : (words : List ℕ) → count_by (λ b. b) (bits_of 0 words) ≡ 0
unfolding bits_of
none_counted words = refl
