-- A whole WHERE as the AND of its factors, and those that compare two columns as ties.
use Rattle.std.proofs.Common.{◌≡◌, Bool, true, false, ◌&&◌, List, [], ◌∷◌, ◌++◌, map, filter, Option, Some, None, cond, refl, sym, ap, ◌∙◌}
use Rattle.std.specs.Prelude.{filter_map}
use Rattle.std.specs.List.{list_all, cons_option}
use Rattle.std.specs.Option.{option_and_then}
use Rattle.blink_base.specs.Values.{Row}
use Rattle.blink_lists.specs.Lists.{choices}
use Rattle.blink_lists.proofs.GroupLemmas.{filter-alike}
use Rattle.star_sql.specs.declared.ast.Cond.{Cond}
use Rattle.star_meaning.specs.Names.{Scope, Combination}
use Rattle.star_meaning.specs.Truth.{is_true, kept}
use Rattle.star_bind.specs.Factors.{factors}
use Rattle.star_bind.specs.Laws.{factor_holds}
use Rattle.star_bind.proofs.FactorLemmas.{factors_are_condition}

pub filter-all : {X : Type 0} (xs : List X) → filter (λ x. true) xs ≡ xs
filter-all [] = refl
filter-all (x ∷ xs) = ap (λ l. x ∷ l) (filter-all xs)

pub filter-twice : {X : Type 0} (p q : X → Bool) (xs : List X) → filter p (filter q xs) ≡ filter (λ x. q x && p x) xs
filter-twice p q [] = refl
filter-twice {X = X} p q (x ∷ xs) = by (q x) (p x) refl (filter-twice p q xs)
  where
    by : (b c : Bool) → p x ≡ c → filter p (filter q xs) ≡ filter (λ x. q x && p x) xs
        → filter p (cond b (x ∷ filter q xs) (filter q xs)) ≡ cond (b && c) (x ∷ filter (λ x. q x && p x) xs) (filter (λ x. q x && p x) xs)
    by true true e more = ap (λ b. cond b (x ∷ filter p (filter q xs)) (filter p (filter q xs))) e ∙ ap (λ l. x ∷ l) more
    by true false e more = ap (λ b. cond b (x ∷ filter p (filter q xs)) (filter p (filter q xs))) e ∙ more
    by false c e more = more

-- what is there, where it passes
abbrev pub if_passes : {X : Type 0} → (X → Bool) → X → Option X
if_passes p x = cond (p x) (Some x) None

pub filter-found : {X Y : Type 0} (p : Y → Bool) (f : X → Option Y) (xs : List X) → filter p (filter_map f xs) ≡ filter_map (λ x. option_and_then (if_passes p) (f x)) xs
filter-found p f [] = refl
filter-found {Y = Y} p f (x ∷ xs) = by (f x) (filter-found p f xs)
  where
    by : (o : Option Y) → filter p (filter_map f xs) ≡ filter_map (λ x. option_and_then (if_passes p) (f x)) xs
        → filter p (cons_option o (filter_map f xs)) ≡ cons_option (option_and_then (if_passes p) o) (filter_map (λ x. option_and_then (if_passes p) (f x)) xs)
    by None more = more
    by (Some y) more = or (p y)
      where
        or : (b : Bool) → cond b (y ∷ filter p (filter_map f xs)) (filter p (filter_map f xs)) ≡ cons_option (cond b (Some y) None) (filter_map (λ x. option_and_then (if_passes p) (f x)) xs)
        or true = ap (λ l. y ∷ l) more
        or false = more

pub found-same : {X Y : Type 0} (f g : X → Option Y) → ((x : X) → f x ≡ g x) → (xs : List X) → filter_map f xs ≡ filter_map g xs
found-same f g h xs = λ i. filter_map (λ x. h x i) xs

pub choices-of-one : (rows : List Row) → choices (map (λ row. row ∷ []) rows) ≡ rows ∷ []
choices-of-one [] = refl
choices-of-one (r ∷ rows) = λ i. map (λ chosen. r ∷ chosen) (choices-of-one rows i) ++ []

-- whether a whole WHERE is true: all its factors are
abbrev pub where_holds : Scope → Option Cond → Combination → Bool
where_holds scope c rows = list_all (factor_holds scope rows) (factors c)

pub kept-where : (scope : Scope) (c : Option Cond) (tables : List (List Row)) → kept scope c tables ≡ filter (where_holds scope c) (choices tables)
kept-where scope None tables = sym (filter-all (choices tables))
kept-where scope (Some c) tables = filter-alike (is_true scope c) (where_holds scope (Some c)) (λ rows. factors_are_condition scope c rows) (choices tables)
