-- Tests of all elements of a list.
use Rattle.std.proofs.Common.{◌≡◌, ◌+◌, Bool, true, false, not, ◌&&◌, ◌||◌, List, [], ◌∷◌, filter, find, count_by, Some, cond, refl, sym, ap, ◌∙◌, true≢false, arith}
use Rattle.std.specs.List.{list_all, list_any}
use Rattle.std.proofs.lemmas.Bool.{and_from}
use Rattle.std.proofs.lemmas.List.Sums.{sum_by-cons}
use Rattle.blink_lists.proofs.AllLemmas.{all-alike}

-- two tests that follow from each other
pub one_fact : (a b : Bool) → (a ≡ true → b ≡ true) → (b ≡ true → a ≡ true) → a ≡ b
one_fact true b f g = sym (f refl)
one_fact false true f g = g refl
one_fact false false f g = refl

pub or-true : (a : Bool) → (a || true) ≡ true
or-true true = refl
or-true false = refl

pub and-true : (a : Bool) → (a && true) ≡ a
and-true true = refl
and-true false = refl

pub and-pairs : (a b c d : Bool) → ((a && b) && (c && d)) ≡ ((a && c) && (b && d))
and-pairs true b true d = refl
and-pairs true true false d = refl
and-pairs true false false d = refl
and-pairs false b c d = refl

pub or-swap : (a b c : Bool) → (a || (b || c)) ≡ (b || (a || c))
or-swap true true c = refl
or-swap true false c = refl
or-swap false true c = refl
or-swap false false c = refl

pub and-comm : (a b : Bool) → (a && b) ≡ (b && a)
and-comm true true = refl
and-comm true false = refl
and-comm false true = refl
and-comm false false = refl

module _ {X : Type 0} where
  pub all-true : (xs : List X) → list_all (λ x. true) xs ≡ true
  all-true [] = refl
  all-true (x ∷ xs) = all-true xs

  pub all-and : (p q : X → Bool) (xs : List X) → list_all (λ x. p x && q x) xs ≡ (list_all p xs && list_all q xs)
  all-and p q [] = refl
  all-and p q (x ∷ xs) = ap (λ b. (p x && q x) && b) (all-and p q xs) ∙ and-pairs (p x) (q x) (list_all p xs) (list_all q xs)

  pub all_both : (p q : X → Bool) (xs : List X) → list_all p xs ≡ true → list_all q xs ≡ true → list_all (λ x. p x && q x) xs ≡ true
  all_both p q xs first second = all-and p q xs ∙ and_from (list_all p xs) (list_all q xs) first second

  pub all-same-if : (g p q : X → Bool) → ((x : X) → g x ≡ true → p x ≡ q x) → (xs : List X) → list_all g xs ≡ true → list_all p xs ≡ list_all q xs
  all-same-if g p q h [] all = refl
  all-same-if g p q h (x ∷ xs) all = by (g x) (h x) (all-same-if g p q h xs) all
    where
      by : (b : Bool) → (b ≡ true → p x ≡ q x) → (list_all g xs ≡ true → list_all p xs ≡ list_all q xs) → (b && list_all g xs) ≡ true → (p x && list_all p xs) ≡ (q x && list_all q xs)
      by true one more a = ap (λ b. b && list_all p xs) (one refl) ∙ ap (λ b. q x && b) (more a)
      by false one more a = absurd (true≢false (sym a))

  pub all-filter : (h q : X → Bool) (xs : List X) → list_all h (filter q xs) ≡ list_all (λ x. not (q x) || h x) xs
  all-filter h q [] = refl
  all-filter h q (x ∷ xs) = by (q x) (all-filter h q xs)
    where
      by : (b : Bool) → list_all h (filter q xs) ≡ list_all (λ x. not (q x) || h x) xs → list_all h (cond b (x ∷ filter q xs) (filter q xs)) ≡ ((not b || h x) && list_all (λ x. not (q x) || h x) xs)
      by true more = ap (λ b. h x && b) more
      by false more = more

  -- what holds in one of two cases, in both
  pub all-cases : (q h : X → Bool) (xs : List X) → list_all h xs ≡ (list_all (λ x. not (q x) || h x) xs && list_all (λ x. q x || h x) xs)
  all-cases q h xs = all-alike h (λ x. (not (q x) || h x) && (q x || h x)) (λ x. by (q x) (h x)) xs ∙ all-and (λ x. not (q x) || h x) (λ x. q x || h x) xs
    where
      by : (b c : Bool) → c ≡ ((not b || c) && (b || c))
      by true true = refl
      by true false = refl
      by false true = refl
      by false false = refl

  -- one fact, of each element that passes
  pub all-guarded : (q : X → Bool) (b : Bool) (xs : List X) → list_any q xs ≡ true → list_all (λ x. not (q x) || b) xs ≡ b
  all-guarded q true xs any = all-alike (λ x. not (q x) || true) (λ x. true) (λ x. or-true (not (q x))) xs ∙ all-true xs
  all-guarded q false [] any = sym any
  all-guarded q false (x ∷ xs) any = by (q x) any (all-guarded q false xs)
    where
      by : (b : Bool) → (b || list_any q xs) ≡ true → (list_any q xs ≡ true → list_all (λ x. not (q x) || false) xs ≡ false) → ((not b || false) && list_all (λ x. not (q x) || false) xs) ≡ false
      by true a more = refl
      by false a more = more a

  -- where one element passes alone
  none_pass : (p h : X → Bool) (xs : List X) → count_by p xs ≡ 0 → list_all (λ x. not (p x) || h x) xs ≡ true
  none_pass p h [] e = refl
  none_pass p h (x ∷ xs) e = by (p x) (sym (sum_by-cons (λ x. cond (p x) 1 0) x xs) ∙ e) (none_pass p h xs)
    where
      by : (b : Bool) → cond b 1 0 + count_by p xs ≡ 0 → (count_by p xs ≡ 0 → list_all (λ x. not (p x) || h x) xs ≡ true) → ((not b || h x) && list_all (λ x. not (p x) || h x) xs) ≡ true
      by true f more = absurd (omega (arith, f))
      by false f more = more (omega (arith, f))

  abbrev pub OneOf : (X → Bool) → List X → Type 0
  OneOf p xs = (x : X) × (find p xs ≡ Some x) × (p x ≡ true) × ((h : X → Bool) → list_all (λ y. not (p y) || h y) xs ≡ h x)

  pub one_of : (p : X → Bool) (xs : List X) → count_by p xs ≡ 1 → OneOf p xs
  one_of p [] e = absurd (omega (arith, e))
  one_of p (x ∷ xs) e = by (p x) refl (sym (sum_by-cons (λ x. cond (p x) 1 0) x xs) ∙ e) (one_of p xs)
    where
      by : (b : Bool) → p x ≡ b → cond b 1 0 + count_by p xs ≡ 1 → (count_by p xs ≡ 1 → OneOf p xs) → OneOf p (x ∷ xs)
      by true f g more = (x, rw f refl, f, λ h. rw f (ap (λ b. h x && b) (none_pass p h xs (omega (arith, g))) ∙ and-true (h x)))
      by false f g more = let m = more (omega (arith, g)) in (m.0, rw f m.1, m.2, λ h. rw f (m.3 h))

module _ {X Y : Type 0} where
  pub all-swap : (h : X → Y → Bool) (xs : List X) (ys : List Y) → list_all (λ y. list_all (λ x. h x y) xs) ys ≡ list_all (λ x. list_all (h x) ys) xs
  all-swap h xs [] = sym (all-true xs)
  all-swap h xs (y ∷ ys) = ap (λ b. list_all (λ x. h x y) xs && b) (all-swap h xs ys) ∙ sym (all-and (λ x. h x y) (λ x. list_all (h x) ys) xs)
