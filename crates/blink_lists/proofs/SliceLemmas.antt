-- Elements by their places, and parts of a list.
use Rattle.std.proofs.Common.{◌≡◌, ◌<◌, ℕ, zero, suc, ◌+◌, ◌-◌, List, [], ◌∷◌, ◌++◌, map, take, drop, insert, length, length-drop, get_or, slice_get, slice_set, Some, All, refl, sym, ap, subst, ◌∙◌, arith}
use Rattle.std.proofs.lemmas.List.{take_all}

pub take-map : {X Y : Type 0} (f : X → Y) (n : ℕ) (xs : List X) → map f (take n xs) ≡ take n (map f xs)
take-map f zero xs = refl
take-map f (suc n) [] = refl
take-map f (suc n) (x ∷ xs) = ap (λ l. f x ∷ l) (take-map f n xs)

pub drop-map : {X Y : Type 0} (f : X → Y) (n : ℕ) (xs : List X) → map f (drop n xs) ≡ drop n (map f xs)
drop-map f zero xs = refl
drop-map f (suc n) [] = refl
drop-map f (suc n) (x ∷ xs) = drop-map f n xs

drop-at : (xs : List ℕ) (i j : ℕ) → i < length xs → j ≡ suc i → drop i xs ≡ get_or xs i 0 ∷ drop j xs
drop-at [] i j lt e = absurd (omega arith)
drop-at (x ∷ xs) i zero lt e = absurd (omega arith)
drop-at (x ∷ xs) zero (suc j) lt e = let none : j ≡ 0 = omega arith in ap (λ k. x ∷ drop k xs) (sym none)
drop-at (x ∷ xs) (suc i) (suc j) lt e = drop-at xs i j (omega arith) (omega arith)

pub drop-next : (xs : List ℕ) (i : ℕ) → i < length xs → drop i xs ≡ get_or xs i 0 ∷ drop (i + 1) xs
drop-next xs i lt = drop-at xs i (i + 1) lt (omega arith)

-- all behind the first, as a slice gives it
pub rest_all : {X : Type 0} (xs : List X) → take (length xs - 1) (drop 1 xs) ≡ drop 1 xs
rest_all xs = take_all (length xs - 1) (drop 1 xs) (simp length-drop (omega arith))

-- elements of two lists by their places
pub front-at : {X : Type 0} (xs ys : List X) (i : ℕ) → i < length xs → slice_get (xs ++ ys) i ≡ slice_get xs i
front-at [] ys i lt = absurd (omega arith)
front-at (x ∷ xs) ys zero lt = refl
front-at (x ∷ xs) ys (suc i) lt = front-at xs ys i (omega arith)

pub behind-at : {X : Type 0} (xs ys : List X) (i j : ℕ) → j ≡ length xs + i → slice_get (xs ++ ys) j ≡ slice_get ys i
behind-at [] ys i j e = let same : j ≡ i = omega arith in ap (slice_get ys) same
behind-at (x ∷ xs) ys i zero e = absurd (omega arith)
behind-at (x ∷ xs) ys i (suc j) e = behind-at xs ys i j (omega arith)

pub map-insert : {X Y : Type 0} (f : X → Y) (xs : List X) (i : ℕ) (x : X) → map f (insert xs i x) ≡ insert (map f xs) i (f x)
map-insert f xs zero x = refl
map-insert f [] (suc i) x = refl
map-insert f (y ∷ xs) (suc i) x = ap (λ l. f y ∷ l) (map-insert f xs i x)

-- an element of a list that meets a fact throughout
pub item_of : {X : Type 0} (P : X → Type 0) (xs ys : List X) (k : ℕ) (x : X) → All P ys → xs ≡ ys → x ≡ get_or xs k x → k < length xs → P x
item_of P xs ys k x all e is lt = subst P (sym (is ∙ ap (λ l. get_or l k x) e)) (all k x (rw e at lt))

module _ {X : Type 0} where
  -- the element at a place
  pub got : (xs : List X) (k : ℕ) (x d : X) → slice_get xs k ≡ Some x → get_or xs k d ≡ x
  got [] k x d e = cc
  got (y ∷ xs) zero x d e = cc
  got (y ∷ xs) (suc k) x d e = got xs k x d e

  -- what stands at a place, put there again
  pub put_back : (xs : List X) (k : ℕ) (x : X) → slice_get xs k ≡ Some x → slice_set xs k x ≡ xs
  put_back [] k x e = cc
  put_back (y ∷ xs) zero x e = let same : y ≡ x = cc in ap (λ z. z ∷ xs) (sym same)
  put_back (y ∷ xs) (suc k) x e = ap (λ l. y ∷ l) (put_back xs k x e)
