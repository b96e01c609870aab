-- Sums over parts of a list, and counts.
use Rattle.std.proofs.Common.{◌≡◌, ◌≤◌, ℕ, ◌+◌, ◌-◌, Bool, true, false, ◌||◌, cond, List, [], ◌∷◌, take, drop, length, map, sum, count_by, All, refl, sym, ap, ◌∙◌, arith}
use Rattle.std.proofs.Math.Seq.{take-add}
use Rattle.std.proofs.lemmas.List.Sums.{sum_by-cons, sum_by-append, sum_by-take-le}
use Rattle.std.proofs.lemmas.List.Elements.{All-head, All-tail}

pub sum-cons : (x : ℕ) (xs : List ℕ) → sum (x ∷ xs) ≡ x + sum xs
sum-cons x xs = sum_by-cons (λ (y : ℕ). y) x xs

pub sum-take-add : (a b : ℕ) (xs : List ℕ) → sum (take (a + b) xs) ≡ sum (take a xs) + sum (take b (drop a xs))
sum-take-add a b xs = rw (take-add a b xs) (sum_by-append (λ (y : ℕ). y) (take a xs) (take b (drop a xs)))

-- the sum up to b is the sum up to a and what stands between, and no more than the whole
pub sum_between : (a b : ℕ) (xs : List ℕ) → a ≤ b → (sum (take (b - a) (drop a xs)) + sum (take a xs) ≡ sum (take b xs)) × (sum (take b xs) ≤ sum xs)
sum_between a b xs h =
    let e : a + (b - a) ≡ b = omega arith in
    let split = rw e at (sum-take-add a (b - a) xs) in
    (omega arith, sum_by-take-le (λ (y : ℕ). y) xs b)

-- counts that are all at least 1 sum to no less than their number
pub length_le_sum : (xs : List ℕ) → All (λ x. 1 ≤ x) xs → length xs ≤ sum xs
length_le_sum [] each = omega arith
length_le_sum (x ∷ xs) each =
    let here = All-head (λ (y : ℕ). 1 ≤ y) x xs each in
    let rest = length_le_sum xs (All-tail (λ (y : ℕ). 1 ≤ y) x xs each) in
    rw (sum-cons x xs) (omega arith)

some_of : (b c : Bool) → cond (b || c) 1 0 ≤ cond b 1 0 + cond c 1 0
some_of true c = omega arith
some_of false c = omega arith

pub count-or : {X : Type 0} (p q : X → Bool) (xs : List X) → count_by (λ x. p x || q x) xs ≤ count_by p xs + count_by q xs
count-or p q [] = omega arith
count-or p q (x ∷ xs) =
    let both = sum_by-cons (λ y. cond (p y || q y) 1 0) x xs in
    let first = sum_by-cons (λ y. cond (p y) 1 0) x xs in
    let second = sum_by-cons (λ y. cond (q y) 1 0) x xs in
    let here = some_of (p x) (q x) in
    let rest = count-or p q xs in
    omega arith

pub count_none : {X : Type 0} (xs : List X) → count_by (λ x. false) xs ≡ 0
count_none [] = refl
count_none (x ∷ xs) = let first = sum_by-cons (λ y. cond false 1 0) x xs in let rest = count_none xs in omega arith

pub count-map : {X Y : Type 0} (q : Y → Bool) (f : X → Y) (xs : List X) → count_by q (map f xs) ≡ count_by (λ x. q (f x)) xs
count-map q f [] = refl
count-map q f (x ∷ xs) = sum_by-cons (λ y. cond (q y) 1 0) (f x) (map f xs) ∙ ap (λ n. cond (q (f x)) 1 0 + n) (count-map q f xs) ∙ sym (sum_by-cons (λ y. cond (q (f y)) 1 0) x xs)
