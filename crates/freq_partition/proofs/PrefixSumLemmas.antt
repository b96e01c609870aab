-- Sums over parts of a list, and of a list that never rises.
use Rattle.std.proofs.Common.{ℕ, zero, suc, ◌≤◌, ◌≡◌, List, [], ◌∷◌, take, drop, sum, true, refl, arith, le_refl, le_trans}
use Rattle.std.proofs.lemmas.Bool.{and_parts, leb-true}
use Rattle.freq_partition.specs.Division.{never_rises}
use Rattle.blink_lists.proofs.SumLemmas.{sum-cons}

pub never_rises-tail : (x : ℕ) (xs : List ℕ) → never_rises (x ∷ xs) ≡ true → never_rises xs ≡ true
never_rises-tail x [] h = refl
never_rises-tail x (y ∷ ys) h = (and_parts _ _ h).1

pub never_rises-drop : (k : ℕ) (xs : List ℕ) → never_rises xs ≡ true → never_rises (drop k xs) ≡ true
never_rises-drop zero xs h = h
never_rises-drop (suc k) [] h = h
never_rises-drop (suc k) (x ∷ xs) h = never_rises-drop k xs (never_rises-tail x xs h)

-- as many counts, one place later
sum-take-next : (k x : ℕ) (xs : List ℕ) → never_rises (x ∷ xs) ≡ true → sum (take k xs) ≤ sum (take k (x ∷ xs))
sum-take-next zero x xs h = le_refl _
sum-take-next (suc k) x [] h = omega arith
sum-take-next (suc k) x (y ∷ ys) h =
    let later = sum-take-next k y ys (never_rises-tail x (y ∷ ys) h) in
    let falls = leb-true y x ((and_parts _ _ h).0) in
    rw (sum-cons y (take k ys), sum-cons x (take k (y ∷ ys))) (omega arith)

-- as many counts, later
pub sum-take-later : (k t : ℕ) (xs : List ℕ) → never_rises xs ≡ true → sum (take k (drop t xs)) ≤ sum (take k xs)
sum-take-later k zero xs h = le_refl _
sum-take-later k (suc t) [] h = le_refl _
sum-take-later k (suc t) (x ∷ xs) h = le_trans (sum-take-later k t xs (never_rises-tail x xs h)) (sum-take-next k x xs h)
