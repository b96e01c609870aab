-- Lists side by side.
use Rattle.std.proofs.Common.{◌≡◌, ◌<◌, ℕ, zero, suc, Bool, true, List, [], ◌∷◌, ◌++◌, map, length, drop, get_or, refl, ap, sym, ◌∙◌, arith}
use Rattle.std.specs.List.{list_all, zip}
use Rattle.std.proofs.lemmas.Bool.{and_parts, and_from}

-- element by element of three lists
pub zip-at : {X Y Z : Type 0} (p : (X × Y) × Z → Bool) (xs : List X) (ys : List Y) (zs : List Z) (i : ℕ) (x : X) (y : Y) (z : Z) → list_all p (zip (zip xs ys) zs) ≡ true
    → i < length xs → length ys ≡ length xs → length zs ≡ length xs → p ((get_or xs i x, get_or ys i y), get_or zs i z) ≡ true
zip-at p [] ys zs i x y z all lt e k = absurd (omega arith)
zip-at p (a ∷ xs) [] zs i x y z all lt e k = absurd (omega arith)
zip-at p (a ∷ xs) (b ∷ ys) [] i x y z all lt e k = absurd (omega arith)
zip-at p (a ∷ xs) (b ∷ ys) (c ∷ zs) zero x y z all lt e k = (and_parts (p ((a, b), c)) (list_all p (zip (zip xs ys) zs)) all).0
zip-at p (a ∷ xs) (b ∷ ys) (c ∷ zs) (suc i) x y z all lt e k = zip-at p xs ys zs i x y z (and_parts (p ((a, b), c)) (list_all p (zip (zip xs ys) zs)) all).1 (omega arith) (omega arith) (omega arith)

pub map-zip-at : {X Y Z A : Type 0} (f : (X × Y) × Z → A) (xs : List X) (ys : List Y) (zs : List Z) (i : ℕ) (x : X) (y : Y) (z : Z) (d : A)
    → i < length xs → length ys ≡ length xs → length zs ≡ length xs → get_or (map f (zip (zip xs ys) zs)) i d ≡ f ((get_or xs i x, get_or ys i y), get_or zs i z)
map-zip-at f [] ys zs i x y z d lt e k = absurd (omega arith)
map-zip-at f (a ∷ xs) [] zs i x y z d lt e k = absurd (omega arith)
map-zip-at f (a ∷ xs) (b ∷ ys) [] i x y z d lt e k = absurd (omega arith)
map-zip-at f (a ∷ xs) (b ∷ ys) (c ∷ zs) zero x y z d lt e k = refl
map-zip-at f (a ∷ xs) (b ∷ ys) (c ∷ zs) (suc i) x y z d lt e k = map-zip-at f xs ys zs i x y z d (omega arith) (omega arith) (omega arith)

pub length-map-zip : {X Y Z A : Type 0} (f : (X × Y) × Z → A) (xs : List X) (ys : List Y) (zs : List Z) → length ys ≡ length xs → length zs ≡ length xs → length (map f (zip (zip xs ys) zs)) ≡ length xs
length-map-zip f [] ys zs e k = refl
length-map-zip f (a ∷ xs) [] zs e k = absurd (omega arith)
length-map-zip f (a ∷ xs) (b ∷ ys) [] e k = absurd (omega arith)
length-map-zip f (a ∷ xs) (b ∷ ys) (c ∷ zs) e k = let rest = length-map-zip f xs ys zs (omega arith) (omega arith) in omega arith

-- tests that hold of each
pub zip-all : {X Y Z : Type 0} (p : (X × Y) × Z → Bool) (xs : List X) (ys : List Y) (zs : List Z) (x : X) (y : Y) (z : Z) → length ys ≡ length xs → length zs ≡ length xs
    → ((k : ℕ) → k < length xs → p ((get_or xs k x, get_or ys k y), get_or zs k z) ≡ true) → list_all p (zip (zip xs ys) zs) ≡ true
zip-all p [] ys zs x y z e k each = refl
zip-all p (a ∷ xs) [] zs x y z e k each = absurd (omega arith)
zip-all p (a ∷ xs) (b ∷ ys) [] x y z e k each = absurd (omega arith)
zip-all p (a ∷ xs) (b ∷ ys) (c ∷ zs) x y z e k each =
    and_from (p ((a, b), c)) (list_all p (zip (zip xs ys) zs)) (each 0 (omega arith)) (zip-all p xs ys zs x y z (omega arith) (omega arith) (λ i lt. each (suc i) (omega arith)))

pub pair-all : {X Y : Type 0} (p : X × Y → Bool) (xs : List X) (ys : List Y) (x : X) (y : Y) → length ys ≡ length xs → ((k : ℕ) → k < length xs → p (get_or xs k x, get_or ys k y) ≡ true) → list_all p (zip xs ys) ≡ true
pair-all p [] ys x y e each = refl
pair-all p (a ∷ xs) [] x y e each = absurd (omega arith)
pair-all p (a ∷ xs) (b ∷ ys) x y e each = and_from (p (a, b)) (list_all p (zip xs ys)) (each 0 (omega arith)) (pair-all p xs ys x y (omega arith) (λ i lt. each (suc i) (omega arith)))

module _ {A B : Type 0} where
  -- the next pair of two lists of one length
  pub next_pair : (xs : List A) (ys : List B) (k : ℕ) (x c : A) (y d : B) → k < length xs → length ys ≡ length xs → x ≡ get_or xs k c → y ≡ get_or ys k d
      → drop k (zip xs ys) ≡ (x, y) ∷ drop (suc k) (zip xs ys)
  next_pair [] ys k x c y d h e p q = absurd (omega (arith, h))
  next_pair (a ∷ xs) [] k x c y d h e p q = absurd (omega (arith, e))
  next_pair (a ∷ xs) (b ∷ ys) zero x c y d h e p q = rw (p, q) refl
  next_pair (a ∷ xs) (b ∷ ys) (suc k) x c y d h e p q = next_pair xs ys k x c y d (omega (arith, h)) (omega (arith, e)) p q

  -- no pair is left
  pub no_pair : (xs : List A) (ys : List B) → drop (length xs) (zip xs ys) ≡ []
  no_pair [] ys = refl
  no_pair (a ∷ xs) [] = refl
  no_pair (a ∷ xs) (b ∷ ys) = no_pair xs ys

  module _ (p : A × B → Bool) where
    pub all-zip-none : (xs : List A) → list_all p (zip xs []) ≡ true
    all-zip-none [] = refl
    all-zip-none (a ∷ xs) = refl

    -- one more pair passes
    pub all-zip-push : (xs : List A) (ys : List B) (x : A) (y : B) → length ys < length xs → x ≡ get_or xs (length ys) x
        → list_all p (zip xs ys) ≡ true → p (x, y) ≡ true → list_all p (zip xs (ys ++ y ∷ [])) ≡ true
    all-zip-push [] ys x y h e all here = absurd (omega (arith, h))
    all-zip-push (a ∷ xs) [] x y h e all here = let first : p (a, y) ≡ true = ap (λ (z : A). p (z, y)) (sym e) ∙ here in rw first (all-zip-none xs)
    all-zip-push (a ∷ xs) (b ∷ ys) x y h e all here =
        let parts = and_parts (p (a, b)) (list_all p (zip xs ys)) all in
        and_from (p (a, b)) (list_all p (zip xs (ys ++ y ∷ []))) parts.0 (all-zip-push xs ys x y (omega (arith, h)) e parts.1 here)

module _ {X : Type 0} (p : X → Bool) where
  -- one more element passes
  pub all-push : (xs : List X) (x : X) → list_all p xs ≡ true → p x ≡ true → list_all p (xs ++ x ∷ []) ≡ true
  all-push [] x all here = and_from (p x) true here refl
  all-push (y ∷ xs) x all here =
      let parts = and_parts (p y) (list_all p xs) all in
      and_from (p y) (list_all p (xs ++ x ∷ [])) parts.0 (all-push xs x parts.1 here)
