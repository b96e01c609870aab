-- Rows of the fact, each with its combination.
use Rattle.std.proofs.Common.{◌≡◌, List, [], ◌∷◌, map, filter, Option, Some, None, cond, refl, ap}
use Rattle.std.specs.Prelude.{filter_map}
use Rattle.std.specs.List.{cons_option}
use Rattle.std.specs.Option.{is_some}
use Rattle.blink_lists.specs.Rearrangement.{Rearranged}
use Rattle.blink_lists.specs.Rearrangement.Rearranged.{none, kept, swapped, followed}
use Rattle.blink_lists.proofs.RearrangementLemmas.{itself}

option-kept : {Y : Type 0} (o : Option Y) {xs ys : List Y} → Rearranged xs ys → Rearranged (cons_option o xs) (cons_option o ys)
option-kept None r = r
option-kept (Some y) r = kept y r

option-swapped : {Y : Type 0} (o p : Option Y) (xs : List Y) → Rearranged (cons_option o (cons_option p xs)) (cons_option p (cons_option o xs))
option-swapped None p xs = itself (cons_option p xs)
option-swapped (Some x) None xs = itself (x ∷ xs)
option-swapped (Some x) (Some y) xs = swapped x y xs

-- what is found of elements in another order
pub found-rearranged : {X Y : Type 0} (f : X → Option Y) {xs ys : List X} → Rearranged xs ys → Rearranged (filter_map f xs) (filter_map f ys)
found-rearranged f none = none
found-rearranged f (kept x r) = option-kept (f x) (found-rearranged f r)
found-rearranged f (swapped x y xs) = option-swapped (f x) (f y) (filter_map f xs)
found-rearranged f (followed r s) = followed (found-rearranged f r) (found-rearranged f s)

-- only where something is there is it found
pub found-only : {X Y : Type 0} (f : X → Option Y) (xs : List X) → filter_map f (filter (λ x. is_some (f x)) xs) ≡ filter_map f xs
found-only f [] = refl
found-only {X} {Y} f (x ∷ xs) = by (f x) refl (found-only f xs)
  where
    by : (o : Option Y) → f x ≡ o → filter_map f (filter (λ z. is_some (f z)) xs) ≡ filter_map f xs → filter_map f (cond (is_some o) (x ∷ filter (λ z. is_some (f z)) xs) (filter (λ z. is_some (f z)) xs)) ≡ cons_option o (filter_map f xs)
    by None e more = more
    by (Some y) e more = λ i. cons_option (e i) (more i)

module _ {X Y : Type 0} (f : X → Option Y) where
  -- an element, and what is there for it
  abbrev pub Found : Type 0
  Found = (x : X) × (y : Y) × (f x ≡ Some y)

  put : (x : X) (o : Option Y) → f x ≡ o → List Found → List Found
  put x None e more = more
  put x (Some y) e more = (x, y, e) ∷ more

  pub all_found : List X → List Found
  all_found [] = []
  all_found (x ∷ xs) = put x (f x) refl (all_found xs)

  pub founds-are : (xs : List X) → map (λ (p : Found). p.1) (all_found xs) ≡ filter_map f xs
  unfolding all_found put
  founds-are [] = refl
  founds-are (x ∷ xs) = by (f x) refl (founds-are xs)
    where
      by : (o : Option Y) (e : f x ≡ o) → map (λ (p : Found). p.1) (all_found xs) ≡ filter_map f xs → map (λ (p : Found). p.1) (put x o e (all_found xs)) ≡ cons_option o (filter_map f xs)
      by None e more = more
      by (Some y) e more = ap (λ l. y ∷ l) more

  pub finders-are : (xs : List X) → map (λ (p : Found). p.0) (all_found xs) ≡ filter (λ x. is_some (f x)) xs
  unfolding all_found put
  finders-are [] = refl
  finders-are (x ∷ xs) = by (f x) refl (finders-are xs)
    where
      by : (o : Option Y) (e : f x ≡ o) → map (λ (p : Found). p.0) (all_found xs) ≡ filter (λ z. is_some (f z)) xs → map (λ (p : Found). p.0) (put x o e (all_found xs)) ≡ cond (is_some o) (x ∷ filter (λ z. is_some (f z)) xs) (filter (λ z. is_some (f z)) xs)
      by None e more = more
      by (Some y) e more = ap (λ l. x ∷ l) more
