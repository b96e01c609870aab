-- What stands at a place of a list, and what is found in it.
use Rattle.std.proofs.Common.{◌≡◌, ℕ, zero, suc, ◌+◌, ◌<◌, ◌==◌, Bool, true, false, not, ◌&&◌, ◌||◌, List, [], ◌∷◌, ◌++◌, map, filter, find, length, slice_get, slice_index_or, Option, Some, None, option_map, cond, refl, sym, ap, ◌∙◌, subst, true≢false, arith}
use Rattle.std.specs.List.{list_all, list_any, flat_map, zip}
use Rattle.std.specs.Option.{is_some}
use Rattle.std.proofs.lemmas.Bool.{eqb-true}
use Rattle.std.specs.Prelude.{nat_le}
use Rattle.blink_lists.proofs.AnyLemmas.{some_passing}
use Rattle.blink_lists.proofs.GroupLemmas.{both, and_both, all-imply}
use Rattle.blink_lists.specs.Lists.{once_each, numbered_from}
use Rattle.blink_lists.specs.Products.{all_there}
use Rattle.star_bind.proofs.TieLemmas.{Each}

abbrev some_or : {X : Type 0} → X → Option X → X
some_or x None = x
some_or x (Some y) = y

pub some-same : {X : Type 0} (x y : X) → Some x ≡ Some y → x ≡ y
some-same x y e = ap (some_or x) e

pub none-some : {X : Type 0} (x : X) → None ≡ Some x → ⊥
none-some x e = true≢false (sym (ap is_some e))

pub each-both : {X : Type 0} (P Q : X → Type 0) (xs : List X) → Each P xs → Each Q xs → Each (λ x. P x × Q x) xs
each-both P Q [] a b = tt
each-both P Q (x ∷ xs) a b = ((a.0, b.0), each-both P Q xs a.1 b.1)

-- a part at its place
pub each-place : {Z : Type 0} (P : ℕ × Z → Type 0) (from : ℕ) (zs : List Z) (j : ℕ) (z : Z) → Each P (numbered_from from zs) → slice_get zs j ≡ Some z → P (from + j, z)
each-place P from [] j z e h = absurd (none-some z h)
each-place P from (y ∷ zs) zero z e h = subst (λ n. P (n, z)) (omega arith) (subst (λ w. P (from, w)) (some-same y z h) e.0)
each-place P from (y ∷ zs) (suc j) z e h = subst (λ n. P (n, z)) (omega arith) (each-place P (from + 1) zs j z e.1 h)

-- of two lists side by side
pub zip-length : {X Y : Type 0} (xs : List X) (ys : List Y) → length ys ≡ length xs → length (zip xs ys) ≡ length xs
zip-length [] ys l = refl
zip-length (x ∷ xs) [] l = absurd (omega (arith, l))
zip-length (x ∷ xs) (y ∷ ys) l = ap (λ n. suc n) (zip-length xs ys (omega (arith, l)))

pub zip-place : {X Y : Type 0} (d : Y) (xs : List X) (ys : List Y) (j : ℕ) → length ys ≡ length xs → j < length xs
    → (x : X) × (slice_get (zip xs ys) j ≡ Some (x, slice_index_or ys j d)) × (slice_get xs j ≡ Some x)
zip-place d [] ys j l b = absurd (omega (arith, b))
zip-place d (x ∷ xs) [] j l b = absurd (omega (arith, l))
zip-place d (x ∷ xs) (y ∷ ys) zero l b = (x, refl, refl)
zip-place d (x ∷ xs) (y ∷ ys) (suc j) l b = zip-place d xs ys j (omega (arith, l)) (omega (arith, b))

pub zip-maps : {X Y Z : Type 0} (p : Y × Z → Bool) (f : X → Y) (g : X → Z) (xs : List X) → list_all p (zip (map f xs) (map g xs)) ≡ list_all (λ x. p (f x, g x)) xs
zip-maps p f g [] = refl
zip-maps p f g (x ∷ xs) = ap (λ b. p (f x, g x) && b) (zip-maps p f g xs)

-- what is found
pub found-passes : {X : Type 0} (p : X → Bool) (xs : List X) (x : X) → find p xs ≡ Some x → p x ≡ true
found-passes p [] x e = absurd (none-some x e)
found-passes {X = X} p (y ∷ ys) x e = by (p y) refl e (found-passes p ys x)
  where
    by : (b : Bool) → p y ≡ b → cond b (Some y) (find p ys) ≡ Some x → (find p ys ≡ Some x → p x ≡ true) → p x ≡ true
    by true g f more = subst (λ z. p z ≡ true) (some-same y x f) g
    by false g f more = more f

pub any-found : {X : Type 0} (p : X → Bool) (xs : List X) → list_any p xs ≡ true → (x : X) × (find p xs ≡ Some x)
any-found p [] e = absurd (true≢false (sym e))
any-found {X = X} p (x ∷ xs) e = by (p x) e (any-found p xs)
  where
    by : (b : Bool) → (b || list_any p xs) ≡ true → (list_any p xs ≡ true → (x : X) × (find p xs ≡ Some x)) → (y : X) × (cond b (Some x) (find p xs) ≡ Some y)
    by true f more = (x, refl)
    by false f more = more f

pub some-map : {X Y : Type 0} (f : X → Y) (o : Option X) → is_some (option_map f o) ≡ is_some o
some-map f None = refl
some-map f (Some x) = refl

-- a place that is numbered
pub any-numbered : {Z : Type 0} (q : ℕ → Bool) (k from : ℕ) (zs : List Z) → q (from + k) ≡ true → k < length zs → list_any (λ p. q p.0) (numbered_from from zs) ≡ true
any-numbered q k from [] e l = absurd (omega (arith, l))
any-numbered q zero from (z ∷ zs) e l = ap (λ b. b || list_any (λ p. q p.0) (numbered_from (from + 1) zs)) (subst (λ j. q j ≡ true) (omega arith) e)
any-numbered q (suc k) from (z ∷ zs) e l = ap (λ b. q from || b) (any-numbered q k (from + 1) zs (subst (λ j. q j ≡ true) (omega arith) e) (omega (arith, l))) ∙ or-true (q from)
  where
    or-true : (b : Bool) → (b || true) ≡ true
    or-true true = refl
    or-true false = refl

-- all of a list
pub there-some : {X : Type 0} (os : List (Option X)) → is_some (all_there os) ≡ list_all is_some os
there-some [] = refl
there-some (None ∷ os) = refl
there-some (Some x ∷ os) = some-map (λ xs. x ∷ xs) (all_there os) ∙ there-some os

pub there-place : {Z X : Type 0} (d : X) (f : ℕ × Z → Option X) (from : ℕ) (zs : List Z) (xs : List X) → all_there (map f (numbered_from from zs)) ≡ Some xs
    → (j : ℕ) (z : Z) → slice_get zs j ≡ Some z → f (from + j, z) ≡ Some (slice_index_or xs j d)
there-place d f from [] xs e j z h = absurd (none-some z h)
there-place {Z = Z} {X = X} d f from (y ∷ zs) xs e j z h = by (λ ys g i. there-place d f (from + 1) zs ys g i z) (f (from, y)) refl e
  where
    last : (x : X) (os : List (Option X)) → option_map (λ ys. x ∷ ys) (all_there os) ≡ Some xs → (ys : List X) × (all_there os ≡ Some ys) × (x ∷ ys ≡ xs)
    last x os g = or (all_there os) g
      where
        or : (o : Option (List X)) → option_map (λ ys. x ∷ ys) o ≡ Some xs → (ys : List X) × (o ≡ Some ys) × (x ∷ ys ≡ xs)
        or None g = absurd (none-some xs g)
        or (Some ys) g = (ys, refl, some-same (x ∷ ys) xs g)

    at : (x : X) (ys : List X) (j : ℕ) → f (from, y) ≡ Some x → x ∷ ys ≡ xs → slice_get (y ∷ zs) j ≡ Some z → ((i : ℕ) → slice_get zs i ≡ Some z → f (from + 1 + i, z) ≡ Some (slice_index_or ys i d)) → f (from + j, z) ≡ Some (slice_index_or xs j d)
    at x ys zero g k h more = subst (λ n. f (n, z) ≡ Some (slice_index_or xs zero d)) (omega arith) (subst (λ w. f (from, w) ≡ Some (slice_index_or xs zero d)) (some-same y z h) (g ∙ ap (λ l. Some (slice_index_or l zero d)) k))
    at x ys (suc i) g k h more = subst (λ n. f (n, z) ≡ Some (slice_index_or xs (suc i) d)) (omega arith) (more i h ∙ ap (λ l. Some (slice_index_or l (suc i) d)) k)

    by : ((ys : List X) → all_there (map f (numbered_from (from + 1) zs)) ≡ Some ys → (i : ℕ) → slice_get zs i ≡ Some z → f (from + 1 + i, z) ≡ Some (slice_index_or ys i d)) → (o : Option X) → f (from, y) ≡ o → all_there (o ∷ map f (numbered_from (from + 1) zs)) ≡ Some xs → f (from + j, z) ≡ Some (slice_index_or xs j d)
    by more None g e = absurd (none-some xs e)
    by more (Some x) g e = let l = last x (map f (numbered_from (from + 1) zs)) e in at x l.0 j g l.2 h (more l.0 l.1)

-- a number that stands in a list stands once in it
any-filter : (k : ℕ) (q : ℕ → Bool) (ys : List ℕ) → q k ≡ true → list_any (λ y. y == k) ys ≡ true → list_any (λ y. y == k) (filter q ys) ≡ true
any-filter k q [] h e = e
any-filter k q (y ∷ ys) h e = by (y == k) refl (q y) refl e (any-filter k q ys h)
  where
    by : (b : Bool) → (y == k) ≡ b → (c : Bool) → q y ≡ c → (b || list_any (λ y. y == k) ys) ≡ true → (list_any (λ y. y == k) ys ≡ true → list_any (λ y. y == k) (filter q ys) ≡ true) → list_any (λ y. y == k) (cond c (y ∷ filter q ys) (filter q ys)) ≡ true
    by true f true g e more = ap (λ b. b || list_any (λ y. y == k) (filter q ys)) f
    by true f false g e more = absurd (true≢false (sym h ∙ ap q (sym (eqb-true y k f)) ∙ g))
    by false f true g e more = ap (λ b. (y == k) || b) (more e) ∙ or-true (y == k)
      where
        or-true : (b : Bool) → (b || true) ≡ true
        or-true true = refl
        or-true false = refl
    by false f false g e more = more e

pub any-once : (k : ℕ) (xs : List ℕ) → list_any (λ x. x == k) xs ≡ true → list_any (λ x. x == k) (once_each (λ x y. x == y) xs) ≡ true
any-once k [] e = e
any-once k (x ∷ xs) e = by (x == k) refl e (any-once k xs)
  where
    by : (b : Bool) → (x == k) ≡ b → (b || list_any (λ x. x == k) xs) ≡ true → (list_any (λ x. x == k) xs ≡ true → list_any (λ x. x == k) (once_each (λ x y. x == y) xs) ≡ true)
        → ((x == k) || list_any (λ x. x == k) (filter (λ y. not (x == y)) (once_each (λ x y. x == y) xs))) ≡ true
    by true f e more = ap (λ b. b || list_any (λ x. x == k) (filter (λ y. not (x == y)) (once_each (λ x y. x == y) xs))) f
    by false f e more = ap (λ b. b || list_any (λ x. x == k) (filter (λ y. not (x == y)) (once_each (λ x y. x == y) xs))) f ∙ any-filter k (λ y. not (x == y)) (once_each (λ x y. x == y) xs) (ap not f) (more e)

-- elements that pass
pub all-pass : {X : Type 0} (p : X → Bool) (xs : List X) → list_all p xs ≡ true → filter p xs ≡ xs
all-pass p [] h = refl
all-pass p (x ∷ xs) h = let b = both (p x) (list_all p xs) h in rw b.0 (ap (λ l. x ∷ l) (all-pass p xs b.1))

pub none-not : {X : Type 0} (p : X → Bool) (xs : List X) → list_all p xs ≡ true → filter (λ x. not (p x)) xs ≡ []
none-not p [] h = refl
none-not p (x ∷ xs) h = let b = both (p x) (list_all p xs) h in rw b.0 (none-not p xs b.1)

pub some-filtered : {X : Type 0} (p : X → Bool) (xs : List X) → list_any p xs ≡ true → filter p xs ≡ [] → ⊥
some-filtered p xs h e = true≢false (sym (some_passing p xs h) ∙ ap (λ l. nat_le 1 (length l)) e)

-- each element stands in its own list
pub all-self : {X R : Type 0} (e : R → R → Bool) (f : X → R) → ((r : R) → e r r ≡ true) → (xs : List X) → list_all (λ x. list_any (λ y. e (f x) (f y)) xs) xs ≡ true
all-self e f self [] = refl
all-self e f self (x ∷ xs) =
    and_both (list_any (λ y. e (f x) (f y)) (x ∷ xs)) (list_all (λ z. list_any (λ y. e (f z) (f y)) (x ∷ xs)) xs) (ap (λ b. b || list_any (λ y. e (f x) (f y)) xs) (self (f x)))
    (all-imply (λ z. list_any (λ y. e (f z) (f y)) xs) (λ z. list_any (λ y. e (f z) (f y)) (x ∷ xs)) (λ z k. later (e (f z) (f x)) (list_any (λ y. e (f z) (f y)) xs) k) xs (all-self e f self xs))
  where
    later : (a b : Bool) → b ≡ true → (a || b) ≡ true
    later true b k = refl
    later false b k = k

-- an element at its place
pub all-place : {X : Type 0} (p : X → Bool) (xs : List X) (j : ℕ) (x : X) → list_all p xs ≡ true → slice_get xs j ≡ Some x → p x ≡ true
all-place p [] j x h e = absurd (none-some x e)
all-place p (y ∷ ys) zero x h e = subst (λ z. p z ≡ true) (some-same y x e) (both (p y) (list_all p ys) h).0
all-place p (y ∷ ys) (suc j) x h e = all-place p ys j x (both (p y) (list_all p ys) h).1 e

pub flat-of-map : {X Y Z : Type 0} (f : Y → List Z) (g : X → Y) (xs : List X) → flat_map f (map g xs) ≡ flat_map (λ x. f (g x)) xs
flat-of-map f g [] = refl
flat-of-map f g (x ∷ xs) = ap (λ l. f (g x) ++ l) (flat-of-map f g xs)
