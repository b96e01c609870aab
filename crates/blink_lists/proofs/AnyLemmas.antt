-- Tests of some element of a list.
use Rattle.std.proofs.Common.{◌≡◌, ◌≤◌, Bool, true, false, ◌||◌, List, [], ◌∷◌, ◌⊎◌, inl, inr, filter, length, count_by, cond, nat_le, refl, sym, ap, ◌∙◌, true≢false, arith}
use Rattle.std.specs.List.{list_any}
use Rattle.std.proofs.lemmas.Bool.{or_cases, le-leb}
use Rattle.std.proofs.lemmas.List.Folds.{list_any-append}
use Rattle.std.proofs.lemmas.List.Sums.{sum_by-cons}
use Rattle.blink_lists.specs.Lists.{joined}
use Rattle.blink_lists.specs.Rearrangement.{Rearranged}
use Rattle.blink_lists.specs.Rearrangement.Rearranged.{none, kept, swapped, followed}
use Rattle.blink_lists.proofs.BoolLemmas.{or-swap}

pub any-rearranged : {X : Type 0} (p : X → Bool) {xs ys : List X} → Rearranged xs ys → list_any p xs ≡ list_any p ys
any-rearranged p none = refl
any-rearranged p (kept x r) = ap (λ (b : Bool). p x || b) (any-rearranged p r)
any-rearranged p (swapped x y xs) = or-swap (p x) (p y) (list_any p xs)
any-rearranged p (followed r s) = any-rearranged p r ∙ any-rearranged p s

-- some element passes in some list
pub any_joined : {X : Type 0} (p : X → Bool) (lists : List (List X)) → list_any p (joined lists) ≡ list_any (list_any p) lists
any_joined p [] = refl
any_joined p (xs ∷ rest) = list_any-append p xs (joined rest) ∙ ap (λ b. list_any p xs || b) (any_joined p rest)

-- where one passes, a filter lets one through
pub some_passing : {X : Type 0} (p : X → Bool) (xs : List X) → list_any p xs ≡ true → nat_le 1 (length (filter p xs)) ≡ true
some_passing p [] any = absurd (true≢false (sym any))
some_passing p (x ∷ xs) any = by (p x) refl any (some_passing p xs)
  where
    by : (b : Bool) → p x ≡ b → (p x || list_any p xs) ≡ true → (list_any p xs ≡ true → nat_le 1 (length (filter p xs)) ≡ true) → nat_le 1 (length (filter p (x ∷ xs))) ≡ true
    by true e any rest = rw e (le-leb 1 _ (omega arith))
    by false e any rest = rw e (rest (rw e at any))

pub some-count : {X : Type 0} (p : X → Bool) (xs : List X) → list_any p xs ≡ true → 1 ≤ count_by p xs
some-count p [] any = absurd (true≢false (sym any))
some-count p (x ∷ xs) any = by (p x) refl (or_cases (p x) (list_any p xs) any) (some-count p xs)
  where
    by : (b : Bool) → p x ≡ b → (p x ≡ true) ⊎ (list_any p xs ≡ true) → (list_any p xs ≡ true → 1 ≤ count_by p xs) → 1 ≤ count_by p (x ∷ xs)
    by true e o more = rw (sum_by-cons (λ y. cond (p y) 1 0) x xs, e) (omega arith)
    by false e (inl here) more = absurd (true≢false (sym here ∙ e))
    by false e (inr later) more = let rest = more later in rw (sum_by-cons (λ y. cond (p y) 1 0) x xs, e) (omega arith)
