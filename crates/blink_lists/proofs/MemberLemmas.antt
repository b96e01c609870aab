-- What stands in a list.
use Rattle.std.proofs.Common.{◌≡◌, ℕ, zero, suc, ◌+◌, ◌≤◌, ◌<◌, ◌⊎◌, Bool, true, List, [], ◌∷◌, ◌++◌, map, filter, inl, inr, refl, arith}
use Rattle.std.specs.List.{flat_map}
use Rattle.std.proofs.lemmas.Bool.{cases_Bool, cases_eq}
use Rattle.blink_lists.specs.Lists.{numbers_from}

-- x is an element
abbrev pub Among : {X : Type 0} → X → List X → Type 0
Among x [] = ⊥
Among x (y ∷ ys) = (x ≡ y) ⊎ Among x ys

pub Among-append_left : {X : Type 0} (x : X) (xs ys : List X) → Among x xs → Among x (xs ++ ys)
Among-append_left x (y ∷ xs) ys (inl e) = inl e
Among-append_left x (y ∷ xs) ys (inr h) = inr (Among-append_left x xs ys h)
Among-append_left x [] ys h = absurd h

pub Among-append_right : {X : Type 0} (x : X) (xs ys : List X) → Among x ys → Among x (xs ++ ys)
Among-append_right x [] ys h = h
Among-append_right x (y ∷ xs) ys h = inr (Among-append_right x xs ys h)

pub Among-map : {X Y : Type 0} (f : X → Y) (x : X) (xs : List X) → Among x xs → Among (f x) (map f xs)
Among-map f x (y ∷ xs) (inl e) = inl (rw e refl)
Among-map f x (y ∷ xs) (inr h) = inr (Among-map f x xs h)
Among-map f x [] h = absurd h

pub Among-flat_map : {X Y : Type 0} (f : X → List Y) (x : X) (y : Y) (xs : List X) → Among x xs → Among y (f x) → Among y (flat_map f xs)
Among-flat_map f x y (z ∷ xs) (inl e) h = Among-append_left y (f z) (flat_map f xs) (rw e at h)
Among-flat_map f x y (z ∷ xs) (inr i) h = Among-append_right y (f z) (flat_map f xs) (Among-flat_map f x y xs i h)
Among-flat_map f x y [] i h = absurd i

pub Among-filter : {X : Type 0} (p : X → Bool) (x : X) (xs : List X) → p x ≡ true → Among x xs → Among x (filter p xs)
Among-filter p x (y ∷ xs) passes (inl e) = let py = rw e at passes in rw (py, filter) (inl e)
Among-filter p x (y ∷ xs) passes (inr h) = elim (cases_Bool (p y)) [
  | inl e ↦ rw (e, filter) (inr (Among-filter p x xs passes h))
  | inr e ↦ rw (e, filter) (Among-filter p x xs passes h)
]
Among-filter p x [] passes h = absurd h

pub Among-numbers : (x from n : ℕ) → from ≤ x → x < from + n → Among x (numbers_from from n)
Among-numbers x from zero low high = absurd (omega arith)
Among-numbers x from (suc n) low high = elim (cases_eq x from) [
  | inl e ↦ inl e
  | inr ne ↦ inr (Among-numbers x (from + 1) n (omega arith) (omega arith))
]
