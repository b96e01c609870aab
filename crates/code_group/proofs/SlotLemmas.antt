-- The number of a tuple tells it, and a slot tells where it stands.
use Rattle.std.proofs.Common.{◌≡◌, ◌≢◌, cond, ◌<◌, ◌≤◌, ◌+◌, ◌*◌, ℕ, zero, suc, Bool, true, false, List, [], ◌∷◌, ◌++◌, length, drop, get_or, nat_lt, Option, Some, None, replicate, slice_index_or, slice_set, refl, sym, ap, ◌∙◌, arith, true≢false}
use Rattle.std.specs.List.{position, position_or_len}
use Rattle.std.specs.Option.{option_map}
use Rattle.std.proofs.lemmas.Bool.{ltb-true, ltb-false, lt-ltb}
use Rattle.std.proofs.lemmas.List.{length-set, get_or-set_same, get_or-set_other}
use Rattle.blink_lists.proofs.GroupLemmas.{both}
use Rattle.code_group.specs.declared.limits.TheConstants.{MOST_SLOTS}
use Rattle.code_group.specs.Slots.{is_within, number_of, tuple_count, place_in, AreSlots}
use Rattle.code_group.specs.Tuples.{same_tuple}
use Rattle.code_group.proofs.TupleLemmas.{tells_tuples}

-- ---- numbers in mixed radix

pub within-length : (sizes entries : List ℕ) → is_within sizes entries ≡ true → length entries ≡ length sizes
within-length [] [] h = refl
within-length [] (e ∷ es) h = absurd (true≢false (sym h))
within-length (s ∷ ss) [] h = absurd (true≢false (sym h))
within-length (s ∷ ss) (e ∷ es) h = ap suc (within-length ss es (both (nat_lt e s) (is_within ss es) h).1)

digit-below : (e s n m : ℕ) → e < s → n < m → e + s * n < s * m
digit-below e s n m a b =
    let more : s * suc n ≤ s * m = mul_le s (suc n) m (omega (arith, b)) in
    let step : s * suc n ≡ s + s * n = grind arith in
    omega (arith, a, more, step)
  where
    mul_le : (k a b : ℕ) → a ≤ b → k * a ≤ k * b
    mul_le zero a b h = omega arith
    mul_le (suc k) a b h = let rest = mul_le k a b h in let x : suc k * a ≡ a + k * a = grind arith in let y : suc k * b ≡ b + k * b = grind arith in omega (arith, rest, h, x, y)

pub number-below : (sizes entries : List ℕ) → is_within sizes entries ≡ true → number_of sizes entries < tuple_count sizes
number-below [] [] h = omega arith
number-below [] (e ∷ es) h = absurd (true≢false (sym h))
number-below (s ∷ ss) [] h = absurd (true≢false (sym h))
number-below (s ∷ ss) (e ∷ es) h =
    let b = both (nat_lt e s) (is_within ss es) h in
    digit-below e s (number_of ss es) (tuple_count ss) (ltb-true e s b.0) (number-below ss es b.1)

-- the lowest digit, and what stands above it
digits-one : (s a b m n : ℕ) → a < s → b < s → a + s * m ≡ b + s * n → (a ≡ b) × (m ≡ n)
digits-one s a b zero zero x y e = (omega (arith, e), refl)
digits-one s a b zero (suc n) x y e = let k : s * suc n ≡ s + s * n = grind arith in let z : s * 0 ≡ 0 = grind arith in absurd (omega (arith, x, e, k, z))
digits-one s a b (suc m) zero x y e = let k : s * suc m ≡ s + s * m = grind arith in let z : s * 0 ≡ 0 = grind arith in absurd (omega (arith, y, e, k, z))
digits-one s a b (suc m) (suc n) x y e =
    let k : s * suc m ≡ s + s * m = grind arith in
    let l : s * suc n ≡ s + s * n = grind arith in
    let rest = digits-one s a b m n x y (omega (arith, e, k, l)) in
    (rest.0, ap suc rest.1)

-- a number stands for one tuple
pub one-number : (sizes xs ys : List ℕ) → is_within sizes xs ≡ true → is_within sizes ys ≡ true → number_of sizes xs ≡ number_of sizes ys → xs ≡ ys
one-number [] [] [] h k e = refl
one-number [] [] (y ∷ ys) h k e = absurd (true≢false (sym k))
one-number [] (x ∷ xs) ys h k e = absurd (true≢false (sym h))
one-number (s ∷ ss) [] ys h k e = absurd (true≢false (sym h))
one-number (s ∷ ss) (x ∷ xs) [] h k e = absurd (true≢false (sym k))
one-number (s ∷ ss) (x ∷ xs) (y ∷ ys) h k e =
    let a = both (nat_lt x s) (is_within ss xs) h in
    let b = both (nat_lt y s) (is_within ss ys) k in
    let d = digits-one s x y (number_of ss xs) (number_of ss ys) (ltb-true x s a.0) (ltb-true y s b.0) e in
    let rest = one-number ss xs ys a.1 b.1 d.1 in
    λ i. d.0 i ∷ rest i

-- what is left of a tuple, from a place on
pub within-drop : (k : ℕ) (sizes entries : List ℕ) → is_within sizes entries ≡ true → is_within (drop k sizes) (drop k entries) ≡ true
within-drop zero sizes entries h = h
within-drop (suc k) [] [] h = refl
within-drop (suc k) [] (e ∷ es) h = absurd (true≢false (sym h))
within-drop (suc k) (s ∷ ss) [] h = absurd (true≢false (sym h))
within-drop (suc k) (s ∷ ss) (e ∷ es) h = within-drop k ss es (both (nat_lt e s) (is_within ss es) h).1

pub count-drop : (k : ℕ) (sizes entries : List ℕ) → is_within sizes entries ≡ true → tuple_count (drop k sizes) ≤ tuple_count sizes
count-drop zero sizes entries h = omega arith
count-drop (suc k) [] [] h = omega arith
count-drop (suc k) [] (e ∷ es) h = absurd (true≢false (sym h))
count-drop (suc k) (s ∷ ss) [] h = absurd (true≢false (sym h))
count-drop (suc k) (s ∷ ss) (e ∷ es) h =
    let b = both (nat_lt e s) (is_within ss es) h in
    let rest = count-drop k ss es b.1 in
    let some : 1 ≤ s = omega (arith, ltb-true e s b.0) in
    let more = one-more s (tuple_count ss) some in
    omega (arith, rest, more)
  where
    one-more : (s m : ℕ) → 1 ≤ s → m ≤ s * m
    one-more zero m h = absurd (omega (arith, h))
    one-more (suc s) m h = let k : suc s * m ≡ m + s * m = grind arith in omega (arith, k)

-- one digit more
pub digit-more : (at : ℕ) (sizes entries : List ℕ) → is_within sizes entries ≡ true → at < length entries
    → number_of (drop at sizes) (drop at entries) ≡ get_or entries at 0 + get_or sizes at 0 * number_of (drop (suc at) sizes) (drop (suc at) entries)
digit-more at [] [] h lt = absurd (omega (arith, lt))
digit-more at [] (e ∷ es) h lt = absurd (true≢false (sym h))
digit-more at (s ∷ ss) [] h lt = absurd (true≢false (sym h))
digit-more zero (s ∷ ss) (e ∷ es) h lt = refl
digit-more (suc at) (s ∷ ss) (e ∷ es) h lt = digit-more at ss es (both (nat_lt e s) (is_within ss es) h).1 (omega (arith, lt))

pub count-more : (at : ℕ) (sizes : List ℕ) → at < length sizes → tuple_count (drop at sizes) ≡ get_or sizes at 0 * tuple_count (drop (suc at) sizes)
count-more at [] lt = absurd (omega (arith, lt))
count-more zero (s ∷ ss) lt = refl
count-more (suc at) (s ∷ ss) lt = count-more at ss (omega (arith, lt))

-- ---- slots

none-there : (n k : ℕ) → ◌≡◌ {A = ℕ} (slice_index_or (replicate n 0) k 0) 0
none-there zero k = refl
none-there (suc n) zero = refl
none-there (suc n) (suc k) = none-there n k

zeros-many : (n : ℕ) → length (replicate {A = ℕ} n 0) ≡ n
zeros-many zero = refl
zeros-many (suc n) = ap suc (zeros-many n)

-- slots of zeros tell that nothing stands anywhere
pub none-stands : (sizes : List ℕ) → tuple_count sizes ≤ MOST_SLOTS → AreSlots sizes (replicate (tuple_count sizes) 0) []
none-stands sizes few = record {
  full = λ some. sym (zeros-many (tuple_count sizes));
  few = omega (arith, zeros-many (tuple_count sizes), few);
  tells = λ some tuple within. ap place_in (none-there (tuple_count sizes) (number_of sizes tuple));
}

-- no slots tell nothing
pub no-slots : (sizes : List ℕ) (tuples : List (List ℕ)) → AreSlots sizes [] tuples
no-slots sizes tuples = record {
  full = λ some. absurd (omega (arith, some));
  few = omega arith;
  tells = λ some. absurd (omega (arith, some));
}

-- ---- one tuple more behind the others

module _ {X : Type 0} (p : X → Bool) where
  pub found-first : (x : X) (xs : List X) → p x ≡ true → position p (x ∷ xs) ≡ Some 0
  found-first x xs e = rw e (let lt : 0 < suc (length xs) = omega arith in rw lt-ltb refl)

  pub found-next : (x : X) (xs : List X) → p x ≡ false → position p (x ∷ xs) ≡ option_map suc (position p xs)
  found-next x xs e = rw e (by (nat_lt (1 + position_or_len p xs) (suc (length xs))) (nat_lt (position_or_len p xs) (length xs)) refl refl)
    where
      by : (b c : Bool) → nat_lt (1 + position_or_len p xs) (suc (length xs)) ≡ b → nat_lt (position_or_len p xs) (length xs) ≡ c
          → cond b (Some (1 + position_or_len p xs)) None ≡ option_map suc (cond c (Some (position_or_len p xs)) None)
      by true true k l = ap (λ n. Some n) (omega arith)
      by false false k l = refl
      by true false k l = absurd (omega (arith, ltb-true (1 + position_or_len p xs) (suc (length xs)) k, ltb-false (position_or_len p xs) (length xs) l))
      by false true k l = absurd (omega (arith, ltb-false (1 + position_or_len p xs) (suc (length xs)) k, ltb-true (position_or_len p xs) (length xs) l))

  -- another element behind changes nothing
  pub found-before : (xs : List X) (y : X) → p y ≡ false → position p (xs ++ y ∷ []) ≡ position p xs
  found-before [] y e = found-next y [] e
  found-before (x ∷ xs) y e = by (p x) refl (found-before xs y e)
    where
      by : (b : Bool) → p x ≡ b → position p (xs ++ y ∷ []) ≡ position p xs → position p (x ∷ xs ++ y ∷ []) ≡ position p (x ∷ xs)
      by true k rest = found-first x (xs ++ y ∷ []) k ∙ sym (found-first x xs k)
      by false k rest = found-next x (xs ++ y ∷ []) k ∙ ap (option_map suc) rest ∙ sym (found-next x xs k)

  -- the first that passes stands behind those that don't
  pub found-last : (xs : List X) (y : X) → p y ≡ true → position p xs ≡ None → position p (xs ++ y ∷ []) ≡ Some (length xs)
  found-last [] y e h = found-first y [] e
  found-last (x ∷ xs) y e h = by (p x) refl h (found-last xs y e)
    where
      by : (b : Bool) → p x ≡ b → position p (x ∷ xs) ≡ None → (position p xs ≡ None → position p (xs ++ y ∷ []) ≡ Some (length xs)) → position p (x ∷ xs ++ y ∷ []) ≡ Some (suc (length xs))
      by true k n rest = let first = found-first x xs k in cc
      by false k n rest =
          let none : position p xs ≡ None = unmapped (position p xs) (sym (found-next x xs k) ∙ n) in
          found-next x (xs ++ y ∷ []) k ∙ ap (option_map suc) (rest none)
        where
          unmapped : (o : Option ℕ) → option_map suc o ≡ None → o ≡ None
          unmapped None e = refl
          unmapped (Some i) e = cc

-- the slot of a tuple that comes behind the others tells so, and every other slot tells what it told
module _ (sizes slots tuple : List ℕ) (tuples : List (List ℕ)) (at : ℕ) (are : AreSlots sizes slots tuples) (some : 0 < length slots) (within : is_within sizes tuple ≡ true)
    (here : at ≡ length tuples) (absent : position (same_tuple tuple) tuples ≡ None) where
  abbrev new : List ℕ
  new = slice_set slots (number_of sizes tuple) (at + 1)

  in-range : number_of sizes tuple < length slots
  in-range = omega (arith, number-below sizes tuple within, are.full some)

  noted-tells : (other : List ℕ) → is_within sizes other ≡ true → (b : Bool) → same_tuple other tuple ≡ b → place_in (slice_index_or new (number_of sizes other) 0) ≡ position (same_tuple other) (tuples ++ tuple ∷ [])
  noted-tells other fits true e =
      let one : other ≡ tuple = tells_tuples.one other tuple e in
      let none : position (same_tuple other) tuples ≡ None = ap (λ t. position (same_tuple t) tuples) one ∙ absent in
      let slot : slice_index_or new (number_of sizes other) 0 ≡ suc at =
      ap (λ t. slice_index_or new (number_of sizes t) 0) one ∙ get_or-set_same slots (number_of sizes tuple) (at + 1) 0 in-range ∙ (omega arith) in
      ap place_in slot ∙ ap (λ n. Some n) here ∙ sym (found-last (same_tuple other) tuples tuple e none)
  noted-tells other fits false e =
      let apart : number_of sizes other ≢ number_of sizes tuple = λ k. true≢false (sym (tells_tuples.itself tuple) ∙ ap (λ t. same_tuple t tuple) (sym (one-number sizes other tuple fits within k)) ∙ e) in
      ap place_in (get_or-set_other slots (number_of sizes tuple) (number_of sizes other) (at + 1) 0 apart)
      ∙ are.tells some other fits ∙ sym (found-before (same_tuple other) tuples tuple e)

  pub noted : AreSlots sizes new (tuples ++ tuple ∷ [])
  noted = record {
    full = λ still. are.full some ∙ sym (length-set slots (number_of sizes tuple) (at + 1));
    few = omega (arith, are.few, length-set slots (number_of sizes tuple) (at + 1));
    tells = λ still other fits. noted-tells other fits (same_tuple other tuple) refl;
  }

-- ---- a number, digit by digit from the last

pub number-end : (sizes entries : List ℕ) → is_within sizes entries ≡ true → number_of (drop (length entries) sizes) (drop (length entries) entries) ≡ 0
number-end [] [] h = refl
number-end [] (e ∷ es) h = absurd (true≢false (sym h))
number-end (s ∷ ss) [] h = absurd (true≢false (sym h))
number-end (s ∷ ss) (e ∷ es) h = number-end ss es (both (nat_lt e s) (is_within ss es) h).1

module _ (sizes entries : List ℕ) (within : is_within sizes entries ≡ true) (few : tuple_count sizes ≤ MOST_SLOTS) (at k : ℕ) (one : at ≡ k + 1) (lt : k < length entries) where
  pub number-more : number_of (drop at sizes) (drop at entries) * get_or sizes k 0 + get_or entries k 0 ≡ number_of (drop k sizes) (drop k entries)
  number-more =
      let same : at ≡ suc k = omega (arith, one) in
      let turned : number_of (drop at sizes) (drop at entries) * get_or sizes k 0 + get_or entries k 0 ≡ get_or entries k 0 + get_or sizes k 0 * number_of (drop at sizes) (drop at entries) = grind arith in
      turned ∙ ap (λ n. get_or entries k 0 + get_or sizes k 0 * number_of (drop n sizes) (drop n entries)) same ∙ sym (digit-more k sizes entries within lt)

  pub number-few : number_of (drop at sizes) (drop at entries) * get_or sizes k 0 + get_or entries k 0 < MOST_SLOTS
  number-few =
      let below = number-below (drop k sizes) (drop k entries) (within-drop k sizes entries within) in
      let fewer = count-drop k sizes entries within in
      omega (arith, number-more, below, fewer, few)
