-- Numbers that go up by one, and elements with their places.
use Rattle.std.proofs.Common.{◌≡◌, ◌<◌, ◌≤◌, ℕ, zero, suc, ◌+◌, ◌==◌, true, false, cond, List, [], ◌∷◌, ◌++◌, map, length, get_or, count_by, refl, ap, ◌∙◌, inl, inr, arith}
use Rattle.std.specs.List.{list_any}
use Rattle.std.proofs.lemmas.Bool.{eq-eqb, ne_eqb, cases_eq}
use Rattle.std.proofs.lemmas.List.Sums.{sum_by-cons}
use Rattle.blink_lists.proofs.SumLemmas.{count-or, count_none}
use Rattle.blink_lists.specs.Lists.{numbers_from, numbered_from}

pub numbers-at : {X : Type 0} (f : ℕ → X) (a n i : ℕ) (d : X) → i < n → get_or (map f (numbers_from a n)) i d ≡ f (a + i)
numbers-at f a zero i d lt = absurd (omega arith)
numbers-at f a (suc n) zero d lt = let e : a ≡ a + 0 = omega arith in ap f e
numbers-at f a (suc n) (suc i) d lt = let e : (a + 1) + i ≡ a + suc i = omega arith in numbers-at f (a + 1) n i d (omega arith) ∙ ap f e

pub length-numbers : {X : Type 0} (f : ℕ → X) (a n : ℕ) → length (map f (numbers_from a n)) ≡ n
length-numbers f a zero = refl
length-numbers f a (suc n) = ap suc (length-numbers f (a + 1) n)

pub numbered-at : {X : Type 0} (a : ℕ) (xs : List X) (k : ℕ) (d : X) → k < length xs → get_or (numbered_from a xs) k (0, d) ≡ (a + k, get_or xs k d)
numbered-at a [] k d lt = absurd (omega arith)
numbered-at a (x ∷ xs) zero d lt = let e : a ≡ a + 0 = omega arith in ap (λ n. (n, x)) e
numbered-at a (x ∷ xs) (suc k) d lt = let e : (a + 1) + k ≡ a + suc k = omega arith in numbered-at (a + 1) xs k d (omega arith) ∙ ap (λ n. (n, get_or xs k d)) e

pub length-numbered : {X : Type 0} (a : ℕ) (xs : List X) → length (numbered_from a xs) ≡ length xs
length-numbered a [] = refl
length-numbered a (x ∷ xs) = ap suc (length-numbered (a + 1) xs)

pub numbers-push : {X : Type 0} (f : ℕ → X) (a n : ℕ) → map f (numbers_from a (n + 1)) ≡ map f (numbers_from a n) ++ f (a + n) ∷ []
numbers-push f a zero = let e : a ≡ a + 0 = omega arith in ap (λ k. f k ∷ []) e
numbers-push f a (suc n) =
    let e : (a + 1) + n ≡ a + suc n = omega arith in
    let m : suc n + 1 ≡ suc (n + 1) = omega arith in
    ap (λ k. map f (numbers_from a k)) m ∙ ap (λ l. f a ∷ l) (numbers-push f (a + 1) n) ∙ ap (λ k. (f a ∷ map f (numbers_from (a + 1) n)) ++ f k ∷ []) e

pub same-numbers : {X : Type 0} (f g : ℕ → X) (a n : ℕ) → ((k : ℕ) → k < a + n → f k ≡ g k) → map f (numbers_from a n) ≡ map g (numbers_from a n)
same-numbers f g a zero same = refl
same-numbers f g a (suc n) same =
    let head = same a (omega arith) in
    let tail = same-numbers f g (a + 1) n (λ k lt. same k (omega arith)) in
    λ i. head i ∷ tail i

-- a number stands at most once among numbers that go up by one
number_before : {X : Type 0} (k i : ℕ) (xs : List X) → k < i → count_by (λ p. k == p.0) (numbered_from i xs) ≡ 0
number_before k i [] lt = refl
number_before k i (x ∷ xs) lt =
    let other : (k == i) ≡ false = ne_eqb k i (λ e. omega arith) in
    sum_by-cons (λ p. cond (k == p.0) 1 0) (i, x) (numbered_from (i + 1) xs) ∙ rw (other, number_before k (i + 1) xs (omega arith)) refl

pub number_once : {X : Type 0} (k i : ℕ) (xs : List X) → count_by (λ p. k == p.0) (numbered_from i xs) ≤ 1
number_once k i [] = omega arith
number_once {X = X} k i (x ∷ xs) =
    let split = sum_by-cons (λ (p : ℕ × X). cond (k == p.0) 1 0) (i, x) (numbered_from (i + 1) xs) in
    elim (cases_eq k i) [
      | inl e ↦ let here : (k == i) ≡ true = eq-eqb k i e in let rest = number_before k (i + 1) xs (omega arith) in rw (split, here, rest) (omega arith)
      | inr ne ↦ let other : (k == i) ≡ false = ne_eqb k i ne in let rest = number_once k (i + 1) xs in rw (split, other) (omega arith)
    ]

-- as many elements are chosen by their numbers as there are numbers, at most
pub count_chosen : {X : Type 0} (chosen : List ℕ) (i : ℕ) (xs : List X) → count_by (λ p. list_any (λ k. k == p.0) chosen) (numbered_from i xs) ≤ length chosen
count_chosen [] i xs = let none = count_none (numbered_from i xs) in omega arith
count_chosen (k ∷ chosen) i xs =
    let both = count-or (λ p. k == p.0) (λ p. list_any (λ j. j == p.0) chosen) (numbered_from i xs) in
    let once = number_once k i xs in
    let rest = count_chosen chosen i xs in
    omega arith
