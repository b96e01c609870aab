-- Lists whose elements are distinct.
use Rattle.std.proofs.Common.{◌≡◌, ◌≤◌, Bool, true, false, not, ◌&&◌, ◌||◌, List, [], ◌∷◌, ◌++◌, filter, length, refl, sym, ap, ◌∙◌, arith}
use Rattle.std.specs.List.{list_any}
use Rattle.std.proofs.lemmas.List.Folds.{list_any-append}
use Rattle.std.proofs.lemmas.List.Sums.{length-filter, count_by-le-length}
use Rattle.blink_lists.specs.Lists.{once_each, are_distinct}
use Rattle.blink_lists.specs.Rearrangement.{Rearranged}
use Rattle.blink_lists.specs.Rearrangement.Rearranged.{none, kept, swapped, followed}
use Rattle.blink_lists.proofs.AnyLemmas.{any-rearranged}

-- whether an element of the first is in the second
abbrev pub meet : {X : Type 0} → (X → X → Bool) → List X → List X → Bool
meet eq xs ys = list_any (λ x. list_any (eq x) ys) xs

shuffled : (a b c d m : Bool) → (not (a || b) && (c && (d && not m))) ≡ ((not a && c) && (d && not (b || m)))
shuffled true b c d m = refl
shuffled false true false d m = refl
shuffled false true true false m = refl
shuffled false true true true m = refl
shuffled false false c d m = refl

with_true : (b : Bool) → b ≡ (b && true)
with_true true = refl
with_true false = refl

-- two lists together have distinct elements where each has, and they don't meet
pub distinct-append : {X : Type 0} (eq : X → X → Bool) (xs ys : List X) → are_distinct eq (xs ++ ys) ≡ (are_distinct eq xs && (are_distinct eq ys && not (meet eq xs ys)))
distinct-append eq [] ys = with_true (are_distinct eq ys)
distinct-append eq (x ∷ xs) ys =
    rw (list_any-append (eq x) xs ys, distinct-append eq xs ys) (shuffled (list_any (eq x) xs) (list_any (eq x) ys) (are_distinct eq xs) (are_distinct eq ys) (meet eq xs ys))

-- one more list in front
pub distinct_met : {X : Type 0} (eq : X → X → Bool) (xs ys : List X) → meet eq xs ys ≡ true → are_distinct eq (xs ++ ys) ≡ false
distinct_met eq xs ys met = rw (distinct-append eq xs ys, met) (none (are_distinct eq xs) (are_distinct eq ys))
  where
    none : (b c : Bool) → (b && (c && false)) ≡ false
    none true true = refl
    none true false = refl
    none false c = refl

pub distinct_more : {X : Type 0} (eq : X → X → Bool) (xs ys : List X) → are_distinct eq xs ≡ true → meet eq xs ys ≡ false → are_distinct eq (xs ++ ys) ≡ are_distinct eq ys
distinct_more eq xs ys each met = rw (distinct-append eq xs ys, met, each) (sym (with_true (are_distinct eq ys)))

exchanged : (e m n d : Bool) → (not (e || m) && (not n && d)) ≡ (not (e || n) && (not m && d))
exchanged true m n d = refl
exchanged false true true d = refl
exchanged false true false d = refl
exchanged false false true d = refl
exchanged false false false d = refl

pub distinct-rearranged : {X : Type 0} (eq : X → X → Bool) → ((x y : X) → eq x y ≡ eq y x) → {xs ys : List X} → Rearranged xs ys → are_distinct eq xs ≡ are_distinct eq ys
distinct-rearranged eq back none = refl
distinct-rearranged eq back (kept x {xs} {ys} r) = ap (λ (b : Bool). not b && are_distinct eq xs) (any-rearranged (eq x) r) ∙ ap (λ (b : Bool). not (list_any (eq x) ys) && b) (distinct-rearranged eq back r)
distinct-rearranged eq back (swapped x y xs) =
    exchanged (eq x y) (list_any (eq x) xs) (list_any (eq y) xs) (are_distinct eq xs) ∙ ap (λ (b : Bool). not (b || list_any (eq y) xs) && (not (list_any (eq x) xs) && are_distinct eq xs)) (back x y)
distinct-rearranged eq back (followed r s) = distinct-rearranged eq back r ∙ distinct-rearranged eq back s

pub length-filter-le : {X : Type 0} (p : X → Bool) (xs : List X) → length (filter p xs) ≤ length xs
length-filter-le p xs = let e = length-filter p xs in let h = count_by-le-length p xs in omega arith

pub length-once_each-le : {X : Type 0} (eq : X → X → Bool) (xs : List X) → length (once_each eq xs) ≤ length xs
length-once_each-le eq [] = omega arith
length-once_each-le eq (x ∷ xs) =
    let rest = length-once_each-le eq xs in
    let low = length-filter-le (λ y. not (eq x y)) (once_each eq xs) in
    omega arith
