-- A list with one more element behind it: its distinct elements, and how often each stands in it.
use Rattle.std.proofs.Common.{◌≡◌, ℕ, ◌+◌, Bool, true, false, not, List, [], ◌∷◌, ◌++◌, map, filter, count_by, cond, refl, sym, ap, ◌∙◌, true≢false, arith, subst}
use Rattle.std.specs.Bool.{⊤}
use Rattle.std.proofs.lemmas.List.Sums.{sum_by-cons, sum_by-append}
use Rattle.blink_lists.specs.Lists.{once_each}
use Rattle.blink_histogram.specs.InternerRepr.{counting_by}

module _ {X : Type 0} (eq : X → X → Bool) (itself : (x : X) → eq x x ≡ true) (same : (x y : X) → eq x y ≡ true → x ≡ y) where
  -- the elements with one more behind them, where it isn't among them
  abbrev adding : List X → X → List X
  adding [] v = v ∷ []
  adding (x ∷ xs) v = elim (eq v x) [ true ↦ x ∷ xs | false ↦ x ∷ adding xs v ]

  -- each with its number
  abbrev with_numbers : (X → ℕ) → List X → List (X × ℕ)
  with_numbers f xs = map (λ x. (x, f x)) xs

  -- v is none of the elements
  abbrev NoneSame : X → List X → Type 0
  NoneSame v [] = ⊤
  NoneSame v (x ∷ xs) = (eq v x ≡ false) × NoneSame v xs

  -- no element is one before it
  abbrev Distinct : List X → Type 0
  Distinct [] = ⊤
  Distinct (x ∷ xs) = NoneSame x xs × Distinct xs

  adding-there : (x : X) (xs : List X) (v : X) → eq v x ≡ true → adding (x ∷ xs) v ≡ x ∷ xs
  adding-there x xs v e = rw (adding, e) refl

  adding-new : (x : X) (xs : List X) (v : X) → eq v x ≡ false → adding (x ∷ xs) v ≡ x ∷ adding xs v
  adding-new x xs v e = rw (adding, e) refl

  turned : (x y : X) (b : Bool) → eq x y ≡ b → eq y x ≡ b
  turned x y true e = subst (λ z. eq z x ≡ true) (same x y e) (itself x)
  turned x y false e = by (eq y x) refl
    where
      by : (b : Bool) → eq y x ≡ b → eq y x ≡ false
      by true h = absurd (true≢false (sym (subst (λ z. eq z y ≡ true) (same y x h) (itself y)) ∙ e))
      by false h = h

  NoneSame-filter : (v : X) (p : X → Bool) (xs : List X) → NoneSame v xs → NoneSame v (filter p xs)
  NoneSame-filter v p [] n = n
  NoneSame-filter v p (x ∷ xs) n = by (p x) refl (NoneSame-filter v p xs n.1)
    where
      by : (b : Bool) → p x ≡ b → NoneSame v (filter p xs) → NoneSame v (filter p (x ∷ xs))
      by true e rest = rw e (n.0, rest)
      by false e rest = rw e rest

  NoneSame-others : (x : X) (xs : List X) → NoneSame x (filter (λ y. not (eq x y)) xs)
  NoneSame-others x [] = tt
  NoneSame-others x (y ∷ ys) = by (eq x y) refl (NoneSame-others x ys)
    where
      by : (b : Bool) → eq x y ≡ b → NoneSame x (filter (λ z. not (eq x z)) ys) → NoneSame x (filter (λ z. not (eq x z)) (y ∷ ys))
      by true e rest = rw e rest
      by false e rest = rw e (e, rest)

  Distinct-filter : (p : X → Bool) (xs : List X) → Distinct xs → Distinct (filter p xs)
  Distinct-filter p [] d = d
  Distinct-filter p (x ∷ xs) d = by (p x) refl (Distinct-filter p xs d.1)
    where
      by : (b : Bool) → p x ≡ b → Distinct (filter p xs) → Distinct (filter p (x ∷ xs))
      by true e rest = rw e (NoneSame-filter x p xs d.0, rest)
      by false e rest = rw e rest

  pub Distinct-once_each : (xs : List X) → Distinct (once_each eq xs)
  Distinct-once_each [] = tt
  Distinct-once_each (x ∷ xs) = (NoneSame-others x (once_each eq xs), Distinct-filter (λ y. not (eq x y)) (once_each eq xs) (Distinct-once_each xs))

  -- an element that the test drops is not added behind
  filter-dropped : (p : X → Bool) (v : X) → p v ≡ false → (xs : List X) → filter p (adding xs v) ≡ filter p xs
  filter-dropped p v h [] = rw h refl
  filter-dropped p v h (x ∷ xs) = by (eq v x) refl (filter-dropped p v h xs)
    where
      by : (b : Bool) → eq v x ≡ b → filter p (adding xs v) ≡ filter p xs → filter p (adding (x ∷ xs) v) ≡ filter p (x ∷ xs)
      by true e rest = ap (filter p) (adding-there x xs v e)
      by false e rest = ap (filter p) (adding-new x xs v e) ∙ ap (λ ys. cond (p x) (x ∷ ys) ys) rest

  -- and one that it keeps is
  filter-kept : (p : X → Bool) (v : X) → p v ≡ true → (xs : List X) → filter p (adding xs v) ≡ adding (filter p xs) v
  filter-kept p v h [] = rw h refl
  filter-kept p v h (x ∷ xs) = by (eq v x) (p x) refl refl (filter-kept p v h xs)
    where
      by : (b c : Bool) → eq v x ≡ b → p x ≡ c → filter p (adding xs v) ≡ adding (filter p xs) v → filter p (adding (x ∷ xs) v) ≡ adding (filter p (x ∷ xs)) v
      by true true e k rest = rw (adding-there x xs v e, k) (sym (adding-there x (filter p xs) v e))
      by true false e k rest = absurd (true≢false (sym h ∙ ap p (same v x e) ∙ k))
      by false true e k rest = rw (adding-new x xs v e, k, rest) (sym (adding-new x (filter p xs) v e))
      by false false e k rest = rw (adding-new x xs v e, k) rest

  once_each-adding : (xs : List X) (v : X) → once_each eq (xs ++ v ∷ []) ≡ adding (once_each eq xs) v
  once_each-adding [] v = refl
  once_each-adding (x ∷ xs) v = by (eq v x) refl (once_each-adding xs v)
    where
      others : X → Bool
      others y = not (eq x y)

      by : (b : Bool) → eq v x ≡ b → once_each eq (xs ++ v ∷ []) ≡ adding (once_each eq xs) v → once_each eq (x ∷ (xs ++ v ∷ [])) ≡ adding (once_each eq (x ∷ xs)) v
      by true e rest =
          let drops : others v ≡ false = ap not (turned v x true e) in
          ap (λ ys. x ∷ filter others ys) rest ∙ ap (λ ys. x ∷ ys) (filter-dropped others v drops (once_each eq xs)) ∙ sym (adding-there x (filter others (once_each eq xs)) v e)
      by false e rest =
          let keeps : others v ≡ true = ap not (turned v x false e) in
          ap (λ ys. x ∷ filter others ys) rest ∙ ap (λ ys. x ∷ ys) (filter-kept others v keeps (once_each eq xs)) ∙ sym (adding-new x (filter others (once_each eq xs)) v e)

  count-push : (p : X → Bool) (xs : List X) (v : X) → count_by p (xs ++ v ∷ []) ≡ count_by p xs + cond (p v) 1 0
  count-push p xs v =
      let split = sum_by-append (λ x. cond (p x) 1 0) xs (v ∷ []) in
      let last = sum_by-cons (λ x. cond (p x) 1 0) v [] in
      omega arith

  -- what a test of another element dropped is none of v
  NoneSame-unfilter : (v x : X) (ys : List X) → eq v x ≡ false → NoneSame v (filter (λ y. not (eq x y)) ys) → NoneSame v ys
  NoneSame-unfilter v x [] e n = tt
  NoneSame-unfilter v x (y ∷ ys) e n = by (eq x y) refl n (NoneSame-unfilter v x ys e)
    where
      by : (b : Bool) → eq x y ≡ b → NoneSame v (filter (λ z. not (eq x z)) (y ∷ ys)) → (NoneSame v (filter (λ z. not (eq x z)) ys) → NoneSame v ys) → NoneSame v (y ∷ ys)
      by true k m rest = (subst (λ z. eq v z ≡ false) (same x y k) e, rest (rw k at m))
      by false k m rest = let parts = rw k at m in (parts.0, rest parts.1)

  count-absent : (xs : List X) (v : X) → NoneSame v (once_each eq xs) → count_by (eq v) xs ≡ 0
  count-absent [] v n = refl
  count-absent (x ∷ xs) v n =
      let rest = count-absent xs v (NoneSame-unfilter v x (once_each eq xs) n.0 n.1) in
      rw (sum_by-cons (λ y. cond (eq v y) 1 0) x xs, n.0, rest) refl

  module _ (f g : X → ℕ) (v : X) (more : (w : X) → g w ≡ f w + cond (eq w v) 1 0) where
    numbered-unraised : (ys : List X) → NoneSame v ys → with_numbers g ys ≡ with_numbers f ys
    numbered-unraised [] n = refl
    numbered-unraised (y ∷ ys) n =
        let e : g y ≡ f y = let m = rw (turned v y false n.0) at (more y) in omega arith in
        rw (e, numbered-unraised ys n.1) refl

    numbered-raising : (ys : List X) → Distinct ys → (NoneSame v ys → f v ≡ 0) → with_numbers g (adding ys v) ≡ counting_by eq (with_numbers f ys) v
    numbered-raising [] d none =
        let e : g v ≡ 1 = let m = rw (itself v, none tt) at (more v) in omega arith in
        rw e refl
    numbered-raising (y ∷ ys) d none = by (eq v y) refl (λ e. numbered-raising ys d.1 (λ n. none (e, n)))
      where
        by : (b : Bool) → eq v y ≡ b → (eq v y ≡ false → with_numbers g (adding ys v) ≡ counting_by eq (with_numbers f ys) v)
            → with_numbers g (adding (y ∷ ys) v) ≡ counting_by eq (with_numbers f (y ∷ ys)) v
        by true e rest =
            let here : g y ≡ f y + 1 = rw (turned v y true e) at (more y) in
            let others = numbered-unraised ys (subst (λ z. NoneSame z ys) (sym (same v y e)) d.0) in
            rw (adding-there y ys v e, counting_by, e, here, others) refl
        by false e rest =
            let here : g y ≡ f y = let m = rw (turned v y false e) at (more y) in omega arith in
            rw (adding-new y ys v e, counting_by, e, here, rest e) refl

  -- each distinct element with its count, one more counted
  pub counted-raising : (xs : List X) (v : X)
      → with_numbers (λ w. count_by (eq w) (xs ++ v ∷ [])) (once_each eq (xs ++ v ∷ [])) ≡ counting_by eq (with_numbers (λ w. count_by (eq w) xs) (once_each eq xs)) v
  counted-raising xs v =
      ap (with_numbers (λ w. count_by (eq w) (xs ++ v ∷ []))) (once_each-adding xs v)
      ∙ numbered-raising (λ w. count_by (eq w) xs) (λ w. count_by (eq w) (xs ++ v ∷ [])) v (λ w. count-push (eq w) xs v) (once_each eq xs) (Distinct-once_each xs) (count-absent xs v)
