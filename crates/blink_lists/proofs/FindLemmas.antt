-- The first element that passes, and its place.
use Rattle.std.proofs.Common.{◌≡◌, ◌<◌, ◌≤◌, ◌+◌, ℕ, suc, Bool, true, false, not, cond, List, [], ◌∷◌, map, find, length, get_or, nat_lt, Some, None, position, refl, sym, ap, arith}
use Rattle.std.specs.Option.{option_map}
use Rattle.std.specs.List.{position_or_len}
use Rattle.std.proofs.lemmas.Bool.{ltb-true, ltb-false}

module _ {X : Type 0} where
  -- the first place of a list that is made of another
  pub place-map : {Y : Type 0} (f : Y → X) (p : X → Bool) (ys : List Y) → position_or_len p (map f ys) ≡ position_or_len (λ y. p (f y)) ys
  place-map f p [] = refl
  place-map f p (y ∷ ys) = ap (λ n. cond (not (p (f y))) (1 + n) 0) (place-map f p ys)

  -- a place, and that there is none
  pub place_is : (p : X → Bool) (xs : List X) (at : ℕ) → position p xs ≡ Some at → (at ≡ position_or_len p xs) × (at < length xs)
  place_is p xs at e = by (nat_lt (position_or_len p xs) (length xs)) refl e
    where
      by : (b : Bool) → nat_lt (position_or_len p xs) (length xs) ≡ b → cond b (Some (position_or_len p xs)) None ≡ Some at → (at ≡ position_or_len p xs) × (at < length xs)
      by true q e = let same : position_or_len p xs ≡ at = cc in let lt = ltb-true (position_or_len p xs) (length xs) q in (sym same, omega arith)
      by false q e = cc

  pub no_place : (p : X → Bool) (xs : List X) → position p xs ≡ None → length xs ≤ position_or_len p xs
  no_place p xs e = by (nat_lt (position_or_len p xs) (length xs)) refl e
    where
      by : (b : Bool) → nat_lt (position_or_len p xs) (length xs) ≡ b → cond b (Some (position_or_len p xs)) None ≡ None → length xs ≤ position_or_len p xs
      by true q e = cc
      by false q e = ltb-false (position_or_len p xs) (length xs) q

  -- the first element that passes
  pub finds : (p : X → Bool) (xs : List X) (d : X) → position_or_len p xs < length xs → find p xs ≡ Some (get_or xs (position_or_len p xs) d)
  finds p [] d lt = absurd (omega (arith, lt))
  finds p (x ∷ xs) d lt = by (p x) refl (finds p xs d)
    where
      by : (b : Bool) → p x ≡ b → (position_or_len p xs < length xs → find p xs ≡ Some (get_or xs (position_or_len p xs) d)) → find p (x ∷ xs) ≡ Some (get_or (x ∷ xs) (position_or_len p (x ∷ xs)) d)
      by true e more = rw e refl
      by false e more =
          let at : position_or_len p (x ∷ xs) ≡ suc (position_or_len p xs) = rw e (omega arith) in
          rw (at, e) (more (omega (arith, lt, at)))

  pub finds_none : (p : X → Bool) (xs : List X) → length xs ≤ position_or_len p xs → find p xs ≡ None
  finds_none p [] le = refl
  finds_none p (x ∷ xs) le = by (p x) refl (finds_none p xs)
    where
      by : (b : Bool) → p x ≡ b → (length xs ≤ position_or_len p xs → find p xs ≡ None) → find p (x ∷ xs) ≡ None
      by true e more = let at : position_or_len p (x ∷ xs) ≡ 0 = rw e refl in absurd (omega (arith, le, at))
      by false e more =
          let at : position_or_len p (x ∷ xs) ≡ suc (position_or_len p xs) = rw e (omega arith) in
          rw e (more (omega (arith, le, at)))

-- what is found in a list that is made of another
pub find-map : {X Y : Type 0} (f : Y → X) (p : X → Bool) (ys : List Y) → find p (map f ys) ≡ option_map f (find (λ y. p (f y)) ys)
find-map f p [] = refl
find-map f p (y ∷ ys) = by (p (f y)) refl (find-map f p ys)
  where
    by : (b : Bool) → p (f y) ≡ b → find p (map f ys) ≡ option_map f (find (λ z. p (f z)) ys) → find p (map f (y ∷ ys)) ≡ option_map f (find (λ z. p (f z)) (y ∷ ys))
    by true e rest = rw e refl
    by false e rest = rw e rest
