-- What is made of two lists with the same elements has the same elements.
use Rattle.std.proofs.Common.{◌≡◌, ℕ, ◌+◌, Bool, true, false, not, List, [], ◌∷◌, ◌++◌, map, filter, length, sum_by, refl, sym, ap, ◌∙◌, subst, arith}
use Rattle.std.specs.List.{flat_map}
use Rattle.std.proofs.lemmas.List.Sums.{sum_by-cons}
use Rattle.blink_lists.specs.Lists.{choices, once_each}
use Rattle.blink_lists.specs.Rearrangement.{Rearranged, AllRearranged}
use Rattle.blink_lists.specs.Rearrangement.Rearranged.{none, kept, swapped, followed}
use Rattle.blink_lists.specs.Rearrangement.AllRearranged.{no_lists, one_more}

module _ {X : Type 0} where
  pub itself : (xs : List X) → Rearranged xs xs
  itself [] = none
  itself (x ∷ xs) = kept x (itself xs)

  pub sum-rearranged : (f : X → ℕ) {xs ys : List X} → Rearranged xs ys → sum_by f xs ≡ sum_by f ys
  sum-rearranged f none = refl
  sum-rearranged f (kept x {xs} {ys} r) = sum_by-cons f x xs ∙ ap (λ n. f x + n) (sum-rearranged f r) ∙ sym (sum_by-cons f x ys)
  sum-rearranged f (swapped x y xs) =
      let a = sum_by-cons f x (y ∷ xs) in
      let b = sum_by-cons f y xs in
      let c = sum_by-cons f y (x ∷ xs) in
      let d = sum_by-cons f x xs in
      omega arith
  sum-rearranged f (followed r s) = sum-rearranged f r ∙ sum-rearranged f s

  pub length-rearranged : {xs ys : List X} → Rearranged xs ys → length xs ≡ length ys
  length-rearranged none = refl
  length-rearranged (kept x r) = let l = length-rearranged r in omega arith
  length-rearranged (swapped x y xs) = refl
  length-rearranged (followed r s) = length-rearranged r ∙ length-rearranged s

  pub filter-rearranged : (p : X → Bool) {xs ys : List X} → Rearranged xs ys → Rearranged (filter p xs) (filter p ys)
  filter-rearranged p none = none
  filter-rearranged p (kept x {xs} {ys} r) = by (p x) refl (filter-rearranged p r)
    where
      by : (b : Bool) → p x ≡ b → Rearranged (filter p xs) (filter p ys) → Rearranged (filter p (x ∷ xs)) (filter p (x ∷ ys))
      by true e rest = rw e (kept x rest)
      by false e rest = rw e rest
  filter-rearranged p (swapped x y xs) = by (p x) (p y) refl refl
    where
      by : (b c : Bool) → p x ≡ b → p y ≡ c → Rearranged (filter p (x ∷ y ∷ xs)) (filter p (y ∷ x ∷ xs))
      by true true e k = rw (e, k) (swapped x y (filter p xs))
      by true false e k = rw (e, k) (itself (x ∷ filter p xs))
      by false true e k = rw (e, k) (itself (y ∷ filter p xs))
      by false false e k = rw (e, k) (itself (filter p xs))
  filter-rearranged p (followed r s) = followed (filter-rearranged p r) (filter-rearranged p s)

  -- with the same elements in front, and with the same behind
  pub in_front : (xs : List X) {us vs : List X} → Rearranged us vs → Rearranged (xs ++ us) (xs ++ vs)
  in_front [] r = r
  in_front (x ∷ xs) r = kept x (in_front xs r)

  pub behind : (us : List X) {xs ys : List X} → Rearranged xs ys → Rearranged (xs ++ us) (ys ++ us)
  behind us none = itself us
  behind us (kept x r) = kept x (behind us r)
  behind us (swapped x y xs) = swapped x y (xs ++ us)
  behind us (followed r s) = followed (behind us r) (behind us s)

  -- an element moves behind a list
  pub moved : (x : X) (xs us : List X) → Rearranged (x ∷ (xs ++ us)) (xs ++ x ∷ us)
  moved x [] us = itself (x ∷ us)
  moved x (y ∷ xs) us = followed (swapped x y (xs ++ us)) (kept y (moved x xs us))

  pub exchanged : (xs ys us : List X) → Rearranged (xs ++ (ys ++ us)) (ys ++ (xs ++ us))
  exchanged [] ys us = itself (ys ++ us)
  exchanged (x ∷ xs) ys us = followed (kept x (exchanged xs ys us)) (moved x ys (xs ++ us))

  -- each element once
  module _ (eq : X → X → Bool) (one : (x y : X) → eq x y ≡ true → x ≡ y) (back : (x y : X) → eq x y ≡ eq y x) where
    abbrev others : X → X → Bool
    others x y = not (eq x y)

    filter-yes : (p : X → Bool) (x : X) (xs : List X) → p x ≡ true → filter p (x ∷ xs) ≡ x ∷ filter p xs
    filter-yes p x xs e = rw e refl

    filter-no : (p : X → Bool) (x : X) (xs : List X) → p x ≡ false → filter p (x ∷ xs) ≡ filter p xs
    filter-no p x xs e = rw e refl

    filter-twice : (p q : X → Bool) (xs : List X) → filter p (filter q xs) ≡ filter q (filter p xs)
    filter-twice p q [] = refl
    filter-twice p q (x ∷ xs) = by (p x) (q x) refl refl (filter-twice p q xs)
      where
        by : (b c : Bool) → p x ≡ b → q x ≡ c → filter p (filter q xs) ≡ filter q (filter p xs) → filter p (filter q (x ∷ xs)) ≡ filter q (filter p (x ∷ xs))
        by true true e k rest =
            ap (filter p) (filter-yes q x xs k) ∙ filter-yes p x (filter q xs) e ∙ ap (λ l. x ∷ l) rest ∙ sym (filter-yes q x (filter p xs) k) ∙ sym (ap (filter q) (filter-yes p x xs e))
        by true false e k rest = ap (filter p) (filter-no q x xs k) ∙ rest ∙ sym (filter-no q x (filter p xs) k) ∙ sym (ap (filter q) (filter-yes p x xs e))
        by false true e k rest = ap (filter p) (filter-yes q x xs k) ∙ filter-no p x (filter q xs) e ∙ rest ∙ sym (ap (filter q) (filter-no p x xs e))
        by false false e k rest = ap (filter p) (filter-no q x xs k) ∙ rest ∙ sym (ap (filter q) (filter-no p x xs e))

    pub once_each-rearranged : {xs ys : List X} → Rearranged xs ys → Rearranged (once_each eq xs) (once_each eq ys)
    once_each-rearranged none = none
    once_each-rearranged (kept x r) = kept x (filter-rearranged (others x) (once_each-rearranged r))
    once_each-rearranged (swapped x y xs) = by (eq x y) refl
      where
        rest : List X
        rest = once_each eq xs

        by : (b : Bool) → eq x y ≡ b → Rearranged (once_each eq (x ∷ y ∷ xs)) (once_each eq (y ∷ x ∷ xs))
        by true e = subst (λ z. Rearranged (once_each eq (x ∷ z ∷ xs)) (once_each eq (z ∷ x ∷ xs))) (one x y e) (itself (once_each eq (x ∷ x ∷ xs)))
        by false e =
            let k : eq y x ≡ false = sym (back x y) ∙ e in
            rw (e, k, filter-twice (others x) (others y) rest) (swapped x y (filter (others y) (filter (others x) rest)))
    once_each-rearranged (followed r s) = followed (once_each-rearranged r) (once_each-rearranged s)

module _ {X Y : Type 0} where
  pub map-rearranged : (f : X → Y) {xs ys : List X} → Rearranged xs ys → Rearranged (map f xs) (map f ys)
  map-rearranged f none = none
  map-rearranged f (kept x r) = kept (f x) (map-rearranged f r)
  map-rearranged f (swapped x y xs) = swapped (f x) (f y) (map f xs)
  map-rearranged f (followed r s) = followed (map-rearranged f r) (map-rearranged f s)

  -- the lists of each element, one after another
  each_part : (f g : X → List Y) → ((x : X) → Rearranged (f x) (g x)) → (xs : List X) → Rearranged (flat_map f xs) (flat_map g xs)
  each_part f g same [] = none
  each_part f g same (x ∷ xs) = followed (behind (flat_map f xs) (same x)) (in_front (g x) (each_part f g same xs))

  parts_moved : (f : X → List Y) {xs ys : List X} → Rearranged xs ys → Rearranged (flat_map f xs) (flat_map f ys)
  parts_moved f none = none
  parts_moved f (kept x r) = in_front (f x) (parts_moved f r)
  parts_moved f (swapped x y xs) = exchanged (f x) (f y) (flat_map f xs)
  parts_moved f (followed r s) = followed (parts_moved f r) (parts_moved f s)

-- every choice of one element per list
pub choices-rearranged : {X : Type 0} {xss yss : List (List X)} → AllRearranged xss yss → Rearranged (choices xss) (choices yss)
choices-rearranged no_lists = itself ([] ∷ [])
choices-rearranged (one_more {xs} {ys} {xss} {yss} r rest) =
    let more = choices-rearranged rest in
    followed (each_part (λ x. map (λ chosen. x ∷ chosen) (choices xss)) (λ x. map (λ chosen. x ∷ chosen) (choices yss)) (λ x. map-rearranged (λ chosen. x ∷ chosen) more) xs)
    (parts_moved (λ x. map (λ chosen. x ∷ chosen) (choices yss)) r)
