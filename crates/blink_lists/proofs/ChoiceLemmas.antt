-- Choices of one element a list, tested whole.
use Rattle.std.proofs.Common.{◌≡◌, Bool, true, false, ◌&&◌, ◌||◌, List, [], ◌∷◌, map, refl, sym, ap, ◌∙◌}
use Rattle.std.specs.List.{list_any, list_all, flat_map}
use Rattle.std.proofs.lemmas.List.Folds.{list_any-append, list_all-append}
use Rattle.blink_lists.specs.Lists.{choices, joined}

and_or : (a b c : Bool) → (a && (b || c)) ≡ ((a && b) || (a && c))
and_or true b c = refl
and_or false b c = refl

or_and : (a b c : Bool) → ((a || b) && c) ≡ ((a && c) || (b && c))
or_and true b c = by c
  where
    by : (z : Bool) → z ≡ (z || (b && z))
    by true = refl
    by false = elim b as (λ y. false ≡ (false || (y && false))) [ true ↦ refl | false ↦ refl ]
or_and false b c = refl

and_false : (a : Bool) → (a && false) ≡ false
and_false true = refl
and_false false = refl

pub any-map : {X Y : Type 0} (p : Y → Bool) (f : X → Y) (xs : List X) → list_any p (map f xs) ≡ list_any (λ x. p (f x)) xs
any-map p f [] = refl
any-map p f (x ∷ xs) = ap (λ (b : Bool). p (f x) || b) (any-map p f xs)

pub any-flat_map : {X Y : Type 0} (p : Y → Bool) (f : X → List Y) (xs : List X) → list_any p (flat_map f xs) ≡ list_any (λ x. list_any p (f x)) xs
any-flat_map p f [] = refl
any-flat_map p f (x ∷ xs) = list_any-append p (f x) (flat_map f xs) ∙ ap (λ (b : Bool). list_any p (f x) || b) (any-flat_map p f xs)

pub any-alike : {X : Type 0} (p q : X → Bool) → ((x : X) → p x ≡ q x) → (xs : List X) → list_any p xs ≡ list_any q xs
any-alike p q same [] = refl
any-alike p q same (x ∷ xs) = λ i. same x i || any-alike p q same xs i

any-and : {X : Type 0} (a : Bool) (q : X → Bool) (xs : List X) → list_any (λ x. a && q x) xs ≡ (a && list_any q xs)
any-and a q [] = sym (and_false a)
any-and a q (x ∷ xs) = ap (λ (b : Bool). (a && q x) || b) (any-and a q xs) ∙ sym (and_or a (q x) (list_any q xs))

any-shared : {X : Type 0} (p : X → Bool) (b : Bool) (xs : List X) → list_any (λ x. p x && b) xs ≡ (list_any p xs && b)
any-shared p b [] = refl
any-shared p b (x ∷ xs) = ap (λ (c : Bool). (p x && b) || c) (any-shared p b xs) ∙ sym (or_and (p x) (list_any p xs) b)

pub choices_share : {X : Type 0} (p : X → Bool) (lists : List (List (List X))) → list_any (λ choice. list_all p (joined choice)) (choices lists) ≡ list_all (λ parts. list_any (list_all p) parts) lists
choices_share p [] = refl
choices_share {X} p (parts ∷ lists) =
    let whole : List (List X) → Bool = λ choice. list_all p (joined choice) in
    let front : List X → List (List X) → List (List X) = λ part choice. part ∷ choice in
    any-flat_map whole (λ part. map (front part) (choices lists)) parts
    ∙ any-alike (λ part. list_any whole (map (front part) (choices lists))) (λ part. list_all p part && list_any whole (choices lists))
    (λ part. any-map whole (front part) (choices lists)
    ∙ any-alike (λ choice. whole (front part choice)) (λ choice. list_all p part && whole choice) (λ choice. list_all-append p part (joined choice)) (choices lists)
    ∙ any-and (list_all p part) whole (choices lists)) parts
    ∙ any-shared (list_all p) (list_any whole (choices lists)) parts
    ∙ ap (λ (b : Bool). list_any (list_all p) parts && b) (choices_share p lists)
