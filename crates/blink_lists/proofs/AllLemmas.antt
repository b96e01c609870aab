-- Tests of all elements of a list, whatever their order and however they are grouped.
use Rattle.std.proofs.Common.{◌≡◌, ◌<◌, ℕ, zero, suc, ◌==◌, Bool, true, false, not, ◌&&◌, List, [], ◌∷◌, map, filter, length, get_or, refl, sym, ap, ◌∙◌, arith}
use Rattle.std.specs.List.{list_all, flat_map}
use Rattle.std.proofs.lemmas.Bool.{and_parts, and_from, eqb-true, eq-eqb}
use Rattle.std.proofs.lemmas.List.Folds.{list_all-append}
use Rattle.blink_lists.specs.Lists.{once_each, joined}
use Rattle.blink_lists.specs.Rearrangement.{Rearranged}
use Rattle.blink_lists.specs.Rearrangement.Rearranged.{none, kept, swapped, followed}
use Rattle.blink_lists.specs.Groups.{IsSame, with_key}
use Rattle.blink_lists.proofs.GroupLemmas.{groups_rearrange}

swap-and : (a b c : Bool) → (a && (b && c)) ≡ (b && (a && c))
swap-and true true c = refl
swap-and true false c = refl
swap-and false true c = refl
swap-and false false c = refl

pub all-rearranged : {X : Type 0} (p : X → Bool) {xs ys : List X} → Rearranged xs ys → list_all p xs ≡ list_all p ys
all-rearranged p none = refl
all-rearranged p (kept x r) = ap (λ (b : Bool). p x && b) (all-rearranged p r)
all-rearranged p (swapped x y xs) = swap-and (p x) (p y) (list_all p xs)
all-rearranged p (followed r s) = all-rearranged p r ∙ all-rearranged p s

pub all-alike : {X : Type 0} (p q : X → Bool) → ((x : X) → p x ≡ q x) → (xs : List X) → list_all p xs ≡ list_all q xs
all-alike p q same [] = refl
all-alike p q same (x ∷ xs) = λ i. same x i && all-alike p q same xs i

pub all-flat_map : {X Y : Type 0} (p : Y → Bool) (f : X → List Y) (xs : List X) → list_all p (flat_map f xs) ≡ list_all (λ x. list_all p (f x)) xs
all-flat_map p f [] = refl
all-flat_map p f (x ∷ xs) = list_all-append p (f x) (flat_map f xs) ∙ ap (λ (b : Bool). list_all p (f x) && b) (all-flat_map p f xs)

pub all-joined : {X : Type 0} (p : X → Bool) (lists : List (List X)) → list_all p (joined lists) ≡ list_all (list_all p) lists
all-joined p [] = refl
all-joined p (xs ∷ rest) = list_all-append p xs (joined rest) ∙ ap (λ (b : Bool). list_all p xs && b) (all-joined p rest)

-- two tests that agree on what passes a third
pub all-filtered : {X : Type 0} (c p q : X → Bool) → ((x : X) → c x ≡ true → p x ≡ q x) → (xs : List X) → list_all p (filter c xs) ≡ list_all q (filter c xs)
all-filtered c p q same [] = refl
all-filtered c p q same (x ∷ xs) = by (c x) refl (all-filtered c p q same xs)
  where
    by : (b : Bool) → c x ≡ b → list_all p (filter c xs) ≡ list_all q (filter c xs) → list_all p (filter c (x ∷ xs)) ≡ list_all q (filter c (x ∷ xs))
    by true e r = rw e (λ i. same x e i && r i)
    by false e r = rw e r

pub numbers_same : IsSame (λ (x y : ℕ). x == y)
numbers_same = record { one = eqb-true; itself = λ a. eq-eqb a a refl; back = back }
  where
    flip : (a b : ℕ) (x y : Bool) → (a == b) ≡ x → (b == a) ≡ y → x ≡ y
    flip a b true true e k = refl
    flip a b true false e k = sym (eq-eqb b a (sym (eqb-true a b e))) ∙ k
    flip a b false true e k = sym e ∙ eq-eqb a b (sym (eqb-true b a k))
    flip a b false false e k = refl

    back : (a b : ℕ) → (a == b) ≡ (b == a)
    back a b = flip a b (a == b) (b == a) refl refl

-- all elements pass where those of each key do
pub all-by_key : {X K : Type 0} (eq : K → K → Bool) → IsSame eq → (key : X → K) (p : X → Bool) (xs : List X)
    → list_all (λ k. list_all p (with_key eq key xs k)) (once_each eq (map key xs)) ≡ list_all p xs
all-by_key eq s key p xs = sym (all-rearranged p (groups_rearrange eq s key xs) ∙ all-flat_map p (with_key eq key xs) (once_each eq (map key xs)))

-- a part passes what the whole passes
pub all-part : {X : Type 0} (p q : X → Bool) (xs : List X) → list_all p xs ≡ true → list_all p (filter q xs) ≡ true
all-part p q [] all = refl
all-part p q (x ∷ xs) all = by (q x) refl (and_parts (p x) (list_all p xs) all).0 (all-part p q xs (and_parts (p x) (list_all p xs) all).1)
  where
    by : (b : Bool) → q x ≡ b → p x ≡ true → list_all p (filter q xs) ≡ true → list_all p (filter q (x ∷ xs)) ≡ true
    by true e here rest = rw e (and_from (p x) (list_all p (filter q xs)) here rest)
    by false e here rest = rw e rest

-- what a filter lets through passes it
pub all-passing : {X : Type 0} (p : X → Bool) (xs : List X) → list_all p (filter p xs) ≡ true
all-passing p [] = refl
all-passing p (x ∷ xs) = by (p x) refl (all-passing p xs)
  where
    by : (b : Bool) → p x ≡ b → list_all p (filter p xs) ≡ true → list_all p (filter p (x ∷ xs)) ≡ true
    by true e rest = rw e (and_from (p x) (list_all p (filter p xs)) e rest)
    by false e rest = rw e rest

pub all-once_each : {X : Type 0} (eq : X → X → Bool) (p : X → Bool) (xs : List X) → list_all p xs ≡ true → list_all p (once_each eq xs) ≡ true
all-once_each eq p [] all = refl
all-once_each eq p (x ∷ xs) all =
    let parts = and_parts (p x) (list_all p xs) all in
    and_from (p x) (list_all p (filter (λ y. not (eq x y)) (once_each eq xs))) parts.0 (all-part p (λ y. not (eq x y)) (once_each eq xs) (all-once_each eq p xs parts.1))

-- an element of a list that passes throughout
pub all_at : {X : Type 0} (p : X → Bool) (xs : List X) (i : ℕ) (d : X) → list_all p xs ≡ true → i < length xs → p (get_or xs i d) ≡ true
all_at p [] i d all lt = absurd (omega arith)
all_at p (x ∷ xs) zero d all lt = (and_parts (p x) (list_all p xs) all).0
all_at p (x ∷ xs) (suc i) d all lt = all_at p xs i d (and_parts (p x) (list_all p xs) all).1 (omega arith)
