-- The first elements of a list in order, put one after another.
use Rattle.std.proofs.Common.{◌≡◌, ◌<◌, ◌≤◌, ◌+◌, ℕ, zero, suc, Bool, true, false, List, [], ◌∷◌, ◌++◌, take, drop, length, cond, not, inl, inr, refl, sym, ap, ◌∙◌, arith}
use Rattle.std.specs.List.{position_or_len, insert}
use Rattle.std.specs.declared.cmp.Ordering.{Ordering}
use Rattle.std.specs.Ordering.{is_le}
use Rattle.std.proofs.Math.Seq.{take-append_seam, drop-append_seam}
use Rattle.std.proofs.lemmas.Bool.{cases_lt}
use Rattle.std.proofs.lemmas.List.{length-take, take-append-drop, take_all}
use Rattle.std.proofs.lemmas.List.Sums.{prefix_len-le-length}
use Rattle.blink_lists.specs.Lists.{put_in_order, in_order}

take-again : {X : Type 0} (n : ℕ) (xs : List X) → take n (take (suc n) xs) ≡ take n xs
take-again zero xs = refl
take-again (suc n) [] = refl
take-again (suc n) (x ∷ xs) = ap (λ l. x ∷ l) (take-again n xs)

shorter : {X : Type 0} (n : ℕ) (x : X) (xs : List X) → take n (x ∷ take n xs) ≡ take n (x ∷ xs)
shorter zero x xs = refl
shorter (suc n) x xs = ap (λ l. x ∷ l) (take-again n xs)

module _ {X : Type 0} (cmp : X → X → Ordering) where
  put-next : (x y : X) (ys : List X) (b : Bool) → is_le (cmp x y) ≡ b → put_in_order cmp x (y ∷ ys) ≡ cond b (x ∷ y ∷ ys) (y ∷ put_in_order cmp x ys)
  put-next x y ys true e = rw (put_in_order, e) refl
  put-next x y ys false e = rw (put_in_order, e) refl

  -- what is put into the first elements, and what is put into all
  pub put-first : (n : ℕ) (x : X) (ys : List X) → take n (put_in_order cmp x (take n ys)) ≡ take n (put_in_order cmp x ys)
  put-first zero x ys = refl
  put-first (suc n) x [] = refl
  put-first (suc n) x (y ∷ ys) = by (is_le (cmp x y)) refl (put-first n x ys) (shorter n y ys)
    where
      by : (b : Bool) → is_le (cmp x y) ≡ b → take n (put_in_order cmp x (take n ys)) ≡ take n (put_in_order cmp x ys) → take n (y ∷ take n ys) ≡ take n (y ∷ ys)
          → take (suc n) (put_in_order cmp x (y ∷ take n ys)) ≡ take (suc n) (put_in_order cmp x (y ∷ ys))
      by true e rest fewer = ap (take (suc n)) (put-next x y (take n ys) true e) ∙ ap (λ l. x ∷ l) fewer ∙ sym (ap (take (suc n)) (put-next x y ys true e))
      by false e rest fewer = ap (take (suc n)) (put-next x y (take n ys) false e) ∙ ap (λ l. y ∷ l) rest ∙ sym (ap (take (suc n)) (put-next x y ys false e))

  -- the place at which an element is put
  abbrev pub place : X → List X → ℕ
  place x ys = position_or_len (λ y. is_le (cmp x y)) ys

  pub place-within : (x : X) (ys : List X) → place x ys ≤ length ys
  place-within x ys = prefix_len-le-length (λ y. not (is_le (cmp x y))) ys

  pub put-at : (x : X) (ys : List X) → put_in_order cmp x ys ≡ insert ys (place x ys) x
  put-at x [] = refl
  put-at x (y ∷ ys) = by (is_le (cmp x y)) refl (put-at x ys)
    where
      by : (b : Bool) → is_le (cmp x y) ≡ b → put_in_order cmp x ys ≡ insert ys (place x ys) x → put_in_order cmp x (y ∷ ys) ≡ insert (y ∷ ys) (place x (y ∷ ys)) x
      by true e rest = put-next x y ys true e ∙ sym (ap (λ c. insert (y ∷ ys) (cond (not c) (1 + place x ys) 0) x) e)
      by false e rest =
          let next : suc (place x ys) ≡ 1 + place x ys = omega arith in
          put-next x y ys false e ∙ ap (λ l. y ∷ l) rest ∙ ap (λ n. insert (y ∷ ys) n x) next ∙ sym (ap (λ c. insert (y ∷ ys) (cond (not c) (1 + place x ys) 0) x) e)

  -- an element behind the first ones leaves them
  pub put-behind-all : (n : ℕ) (x : X) (ys : List X) → length ys ≤ n → n ≤ place x ys → ys ≡ take n (put_in_order cmp x ys)
  put-behind-all n x ys few past =
      let most = prefix_len-le-length (λ y. not (is_le (cmp x y))) ys in
      let here : place x ys ≡ length ys = omega (arith, few, past, most) in
      let many : n ≡ length ys = omega (arith, few, past, most) in
      sym (ap (take n) (put-at x ys ∙ ap (λ i. insert ys i x) here) ∙ ap (λ m. take m (insert ys (length ys) x)) many ∙ ap (λ l. take (length ys) (l ++ x ∷ drop (length ys) ys)) (take_all (length ys) ys (omega arith)) ∙ take-append_seam ys (x ∷ drop (length ys) ys))

  -- one more of the elements that are taken from the end
  pub put-more : (n : ℕ) (all lines rest first new : List X) (x : X) → lines ≡ take (length lines) all → lines ≡ rest ++ x ∷ [] → first ≡ take n (in_order cmp (drop (length lines) all))
      → new ≡ take n (put_in_order cmp x first) → (rest ≡ take (length rest) all) × (new ≡ take n (in_order cmp (drop (length rest) all))) × (length new ≤ n)
  put-more n all lines rest first new x left last had put =
      let d : List X = drop (length lines) all in
      let whole : all ≡ rest ++ (x ∷ d) = sym (take-append-drop (length lines) all) ∙ ap (λ l. l ++ d) (sym left ∙ last) ∙ together rest d in
      let front : rest ≡ take (length rest) all = sym (ap (take (length rest)) whole ∙ take-append_seam rest (x ∷ d)) in
      let behind : drop (length rest) all ≡ x ∷ d = ap (drop (length rest)) whole ∙ drop-append_seam rest (x ∷ d) in
      let made : new ≡ take n (in_order cmp (drop (length rest) all)) = put ∙ ap (λ l. take n (put_in_order cmp x l)) had ∙ put-first n x (in_order cmp d) ∙ ap (λ l. take n (in_order cmp l)) (sym behind) in
      let long = ap (λ (l : List X). length l) put ∙ length-take n (put_in_order cmp x first) in
      (front, made, omega (arith, long))
    where
      together : (xs ds : List X) → (xs ++ x ∷ []) ++ ds ≡ xs ++ (x ∷ ds)
      together [] ds = refl
      together (z ∷ zs) ds = ap (λ l. z ∷ l) (together zs ds)

-- what holds of no number below one, and not of it, holds of none below the next
pub none-more : (p : ℕ → Bool) (n : ℕ) → ((k : ℕ) → k < n → p k ≡ false) → p n ≡ false → (k : ℕ) → k < n + 1 → p k ≡ false
none-more p n below here k lt = elim (cases_lt k n) [ inl less ↦ below k less | inr past ↦ (let same : k ≡ n = omega (arith, lt, past) in ap p same ∙ here) ]
