-- Every choice of one element per list, filtered place by place, with one list taken out in front.
use Rattle.std.proofs.Common.{◌≡◌, ℕ, zero, suc, ◌+◌, ◌<◌, Bool, true, false, ◌&&◌, List, [], ◌∷◌, ◌++◌, map, filter, length, slice_index_or, Option, Some, None, option_map, refl, sym, ap, ◌∙◌, subst, arith, cond}
use Rattle.std.specs.List.{flat_map, filter_map, cons_option}
use Rattle.std.specs.Option.{option_to_list}
use Rattle.std.proofs.lemmas.List.{append-nil, append_assoc, map-append}
use Rattle.blink_lists.specs.Lists.{choices}
use Rattle.blink_lists.specs.Rearrangement.{Rearranged}
use Rattle.blink_lists.specs.Rearrangement.Rearranged.{none, followed}
use Rattle.blink_lists.proofs.RearrangementLemmas.{itself, in_front, behind, map-rearranged, exchanged}
use Rattle.blink_lists.proofs.GroupLemmas.{filter-alike}
use Rattle.blink_lists.specs.Products.{each_filtered, each_passes, with_one, all_there}

module _ {X : Type 0} where
  pub filter-append : (p : X → Bool) (xs ys : List X) → filter p (xs ++ ys) ≡ filter p xs ++ filter p ys
  filter-append p [] ys = refl
  filter-append p (x ∷ xs) ys = by (p x) (filter-append p xs ys)
    where
      by : (b : Bool) → filter p (xs ++ ys) ≡ filter p xs ++ filter p ys → cond b (x ∷ filter p (xs ++ ys)) (filter p (xs ++ ys)) ≡ cond b (x ∷ filter p xs) (filter p xs) ++ filter p ys
      by true more = ap (λ l. x ∷ l) more
      by false more = more

  pub filter-none : (xs : List X) → filter (λ x. false) xs ≡ []
  filter-none [] = refl
  filter-none (x ∷ xs) = filter-none xs

  pub is_one : {xs ys : List X} → xs ≡ ys → Rearranged xs ys
  is_one {xs} {ys} e = subst (λ l. Rearranged xs l) e (itself xs)

module _ {X Y : Type 0} where
  pub filter-map : (p : Y → Bool) (f : X → Y) (xs : List X) → filter p (map f xs) ≡ map f (filter (λ x. p (f x)) xs)
  filter-map p f [] = refl
  filter-map p f (x ∷ xs) = by (p (f x)) (filter-map p f xs)
    where
      by : (b : Bool) → filter p (map f xs) ≡ map f (filter (λ x. p (f x)) xs) → cond b (f x ∷ filter p (map f xs)) (filter p (map f xs)) ≡ map f (cond b (x ∷ filter (λ x. p (f x)) xs) (filter (λ x. p (f x)) xs))
      by true more = ap (λ l. f x ∷ l) more
      by false more = more

  pub flat-same : (f g : X → List Y) → ((x : X) → f x ≡ g x) → (xs : List X) → flat_map f xs ≡ flat_map g xs
  flat-same f g h xs = λ i. flat_map (λ x. h x i) xs

  pub flat-rearranged : (f g : X → List Y) → ((x : X) → Rearranged (f x) (g x)) → (xs : List X) → Rearranged (flat_map f xs) (flat_map g xs)
  flat-rearranged f g same [] = none
  flat-rearranged f g same (x ∷ xs) = followed (behind (flat_map f xs) (same x)) (in_front (g x) (flat-rearranged f g same xs))

  pub filter-flat : (p : Y → Bool) (f : X → List Y) (xs : List X) → filter p (flat_map f xs) ≡ flat_map (λ x. filter p (f x)) xs
  filter-flat p f [] = refl
  filter-flat p f (x ∷ xs) = filter-append p (f x) (flat_map f xs) ∙ ap (λ l. filter p (f x) ++ l) (filter-flat p f xs)

  pub flat-none : (xs : List X) → flat_map (λ x. let r : List Y = [] in r) xs ≡ []
  flat-none [] = refl
  flat-none (x ∷ xs) = flat-none xs

  -- a list of each element that passes the test
  pub flat-filter : (p : X → Bool) (f : X → List Y) (xs : List X) → flat_map (λ x. cond (p x) (f x) []) xs ≡ flat_map f (filter p xs)
  flat-filter p f [] = refl
  flat-filter p f (x ∷ xs) = by (p x) (flat-filter p f xs)
    where
      by : (b : Bool) → flat_map (λ x. cond (p x) (f x) []) xs ≡ flat_map f (filter p xs) → cond b (f x) [] ++ flat_map (λ x. cond (p x) (f x) []) xs ≡ flat_map f (cond b (x ∷ filter p xs) (filter p xs))
      by true more = ap (λ l. f x ++ l) more
      by false more = more

  -- two lists of each element, one behind the other
  flat-both : (f g : X → List Y) (xs : List X) → Rearranged (flat_map f xs ++ flat_map g xs) (flat_map (λ x. f x ++ g x) xs)
  flat-both f g [] = none
  flat-both f g (x ∷ xs) =
      followed (is_one (append_assoc (f x) (flat_map f xs) (g x ++ flat_map g xs)))
      (followed (in_front (f x) (exchanged (flat_map f xs) (g x) (flat_map g xs)))
      (followed (in_front (f x) (in_front (g x) (flat-both f g xs)))
      (is_one (sym (append_assoc (f x) (g x) (flat_map (λ x. f x ++ g x) xs))))))

  pub flat-option : (h : X → Option Y) (xs : List X) → flat_map (λ x. option_to_list (h x)) xs ≡ filter_map h xs
  flat-option h [] = refl
  flat-option h (x ∷ xs) = by (h x) (flat-option h xs)
    where
      by : (o : Option Y) → flat_map (λ x. option_to_list (h x)) xs ≡ filter_map h xs → option_to_list o ++ flat_map (λ x. option_to_list (h x)) xs ≡ cons_option o (filter_map h xs)
      by None more = more
      by (Some y) more = ap (λ l. y ∷ l) more

module _ {X Y Z : Type 0} where
  -- rows by columns are columns by rows
  pub flat-swap : (h : X → Y → List Z) (xs : List X) (ys : List Y) → Rearranged (flat_map (λ x. flat_map (h x) ys) xs) (flat_map (λ y. flat_map (λ x. h x y) xs) ys)
  flat-swap h [] ys = is_one (sym (flat-none ys))
  flat-swap h (x ∷ xs) ys = followed (in_front (flat_map (h x) ys) (flat-swap h xs ys)) (flat-both (h x) (λ y. flat_map (λ x. h x y) xs) ys)

  pub map-flat : (f : Y → Z) (g : X → List Y) (xs : List X) → map f (flat_map g xs) ≡ flat_map (λ x. map f (g x)) xs
  map-flat f g [] = refl
  map-flat f g (x ∷ xs) = map-append f (g x) (flat_map g xs) ∙ ap (λ l. map f (g x) ++ l) (map-flat f g xs)

&&-assoc : (a b c : Bool) → (a && (b && c)) ≡ ((a && b) && c)
&&-assoc true b c = refl
&&-assoc false b c = refl

map-cond : {X Y : Type 0} (b : Bool) (f : X → Y) (xs : List X) → map f (cond b xs []) ≡ cond b (map f xs) []
map-cond true f xs = refl
map-cond false f xs = refl

module _ {X : Type 0} where
  -- choices that pass place by place are the choices of what passes
  pub filter-choices : (p : ℕ → X → Bool) (from : ℕ) (xss : List (List X)) → filter (each_passes p from) (choices xss) ≡ choices (each_filtered p from xss)
  filter-choices p from [] = refl
  filter-choices p from (xs ∷ rest) =
      filter-flat (each_passes p from) (λ x. map (λ chosen. x ∷ chosen) (choices rest)) xs
      ∙ flat-same (λ x. filter (each_passes p from) (map (λ chosen. x ∷ chosen) (choices rest))) (λ x. cond (p from x) (map (λ chosen. x ∷ chosen) (choices (each_filtered p (from + 1) rest))) []) (each (filter-choices p (from + 1) rest)) xs
      ∙ flat-filter (p from) (λ x. map (λ chosen. x ∷ chosen) (choices (each_filtered p (from + 1) rest))) xs
    where
      each : filter (each_passes p (from + 1)) (choices rest) ≡ choices (each_filtered p (from + 1) rest) → (x : X) → filter (each_passes p from) (map (λ chosen. x ∷ chosen) (choices rest)) ≡ cond (p from x) (map (λ chosen. x ∷ chosen) (choices (each_filtered p (from + 1) rest))) []
      each more x = filter-map (each_passes p from) (λ chosen. x ∷ chosen) (choices rest) ∙ by (p from x)
        where
          by : (b : Bool) → map (λ chosen. x ∷ chosen) (filter (λ ys. b && each_passes p (from + 1) ys) (choices rest)) ≡ cond b (map (λ chosen. x ∷ chosen) (choices (each_filtered p (from + 1) rest))) []
          by true = ap (map (λ chosen. x ∷ chosen)) more
          by false = ap (map (λ chosen. x ∷ chosen)) (filter-none (choices rest))

  module _ (d : X) where
    abbrev Tests : Type 0
    Tests = X → ℕ → X → Bool

    -- the choices of one element of the list at place k, where it passes g, and of what passes beside it elsewhere
    abbrev chosen_beside : Tests → (X → Bool) → ℕ → ℕ → List (List X) → X → List (List X)
    chosen_beside P g from k xss r = cond (g r) (choices (each_filtered (P r) from (with_one k r xss))) []

    abbrev passes_beside : Tests → (X → Bool) → ℕ → ℕ → List X → Bool
    passes_beside P g from k rows = g (slice_index_or rows k d) && each_passes (P (slice_index_or rows k d)) from rows

    taken : (P : Tests) (g : X → Bool) (from k : ℕ) (xss : List (List X)) → k < length xss
        → Rearranged (filter (passes_beside P g from k) (choices xss)) (flat_map (chosen_beside P g from k xss) (slice_index_or xss k []))
    taken P g from k [] l = absurd (omega (arith, l))
    taken P g from zero (xs ∷ rest) l = is_one (filter-flat (passes_beside P g from zero) (λ x. map (λ chosen. x ∷ chosen) (choices rest)) xs ∙ flat-same (λ x. filter (passes_beside P g from zero) (map (λ chosen. x ∷ chosen) (choices rest))) (chosen_beside P g from zero (xs ∷ rest)) each xs)
      where
        each : (x : X) → filter (passes_beside P g from zero) (map (λ chosen. x ∷ chosen) (choices rest)) ≡ chosen_beside P g from zero (xs ∷ rest) x
        each x = filter-map (passes_beside P g from zero) (λ chosen. x ∷ chosen) (choices rest) ∙ by (g x) (P x from x)
          where
            by : (b c : Bool) → map (λ chosen. x ∷ chosen) (filter (λ ys. b && (c && each_passes (P x) (from + 1) ys)) (choices rest)) ≡ cond b (choices (cond c (x ∷ []) [] ∷ each_filtered (P x) (from + 1) rest)) []
            by true true = ap (map (λ chosen. x ∷ chosen)) (filter-choices (P x) (from + 1) rest) ∙ sym (append-nil (map (λ chosen. x ∷ chosen) (choices (each_filtered (P x) (from + 1) rest))))
            by true false = ap (map (λ chosen. x ∷ chosen)) (filter-none (choices rest))
            by false c = ap (map (λ chosen. x ∷ chosen)) (filter-none (choices rest))
    taken P g from (suc k) (xs ∷ rest) l =
        followed (is_one (filter-flat (passes_beside P g from (suc k)) (λ x. map (λ chosen. x ∷ chosen) (choices rest)) xs))
        (followed (flat-rearranged (λ x. filter (passes_beside P g from (suc k)) (map (λ chosen. x ∷ chosen) (choices rest))) (λ x. flat_map (both x) (slice_index_or rest k [])) (each (λ h. taken P h (from + 1) k rest (omega (arith, l)))) xs)
        (followed (flat-swap both xs (slice_index_or rest k []))
        (is_one (flat-same (λ r. flat_map (λ x. both x r) xs) (chosen_beside P g from (suc k) (xs ∷ rest)) column (slice_index_or rest k [])))))
      where
        both : X → X → List (List X)
        both x r = cond (g r && P r from x) (map (λ chosen. x ∷ chosen) (choices (each_filtered (P r) (from + 1) (with_one k r rest)))) []

        each : ((h : X → Bool) → Rearranged (filter (passes_beside P h (from + 1) k) (choices rest)) (flat_map (chosen_beside P h (from + 1) k rest) (slice_index_or rest k [])))
            → (x : X) → Rearranged (filter (passes_beside P g from (suc k)) (map (λ chosen. x ∷ chosen) (choices rest))) (flat_map (both x) (slice_index_or rest k []))
        each more x =
            followed (is_one (filter-map (passes_beside P g from (suc k)) (λ chosen. x ∷ chosen) (choices rest)
            ∙ ap (map (λ chosen. x ∷ chosen)) (filter-alike (λ ys. passes_beside P g from (suc k) (x ∷ ys)) (passes_beside P (λ r. g r && P r from x) (from + 1) k)
            (λ ys. &&-assoc (g (slice_index_or ys k d)) (P (slice_index_or ys k d) from x) (each_passes (P (slice_index_or ys k d)) (from + 1) ys)) (choices rest))))
            (followed (map-rearranged (λ chosen. x ∷ chosen) (more (λ r. g r && P r from x)))
            (is_one (map-flat (λ chosen. x ∷ chosen) (chosen_beside P (λ r. g r && P r from x) (from + 1) k rest) (slice_index_or rest k [])
            ∙ flat-same (λ r. map (λ chosen. x ∷ chosen) (chosen_beside P (λ r. g r && P r from x) (from + 1) k rest r)) (both x) (λ r. map-cond (g r && P r from x) (λ chosen. x ∷ chosen) (choices (each_filtered (P r) (from + 1) (with_one k r rest)))) (slice_index_or rest k []))))

        column : (r : X) → flat_map (λ x. both x r) xs ≡ chosen_beside P g from (suc k) (xs ∷ rest) r
        column r = by (g r)
          where
            by : (b : Bool) → flat_map (λ x. cond (b && P r from x) (map (λ chosen. x ∷ chosen) (choices (each_filtered (P r) (from + 1) (with_one k r rest)))) []) xs
                ≡ cond b (choices (filter (P r from) xs ∷ each_filtered (P r) (from + 1) (with_one k r rest))) []
            by true = flat-filter (P r from) (λ x. map (λ chosen. x ∷ chosen) (choices (each_filtered (P r) (from + 1) (with_one k r rest)))) xs
            by false = flat-none xs

    -- the choices that pass, by the element at place k
    pub taken_out : (P : X → ℕ → X → Bool) (k : ℕ) (xss : List (List X)) → k < length xss
        → Rearranged (filter (λ rows. each_passes (P (slice_index_or rows k d)) 0 rows) (choices xss))
        (flat_map (λ r. choices (each_filtered (P r) 0 (with_one k r xss))) (slice_index_or xss k []))
    taken_out P k xss l = taken P (λ r. true) 0 k xss l

  -- choices of what is there or not
  pub choices-there : (os : List (Option X)) → choices (map option_to_list os) ≡ option_to_list (all_there os)
  choices-there [] = refl
  choices-there (None ∷ rest) = refl
  choices-there (Some x ∷ rest) = append-nil (map (λ chosen. x ∷ chosen) (choices (map option_to_list rest))) ∙ ap (map (λ chosen. x ∷ chosen)) (choices-there rest) ∙ by (all_there rest)
    where
      by : (o : Option (List X)) → map (λ chosen. x ∷ chosen) (option_to_list o) ≡ option_to_list (option_map (λ xs. x ∷ xs) o)
      by None = refl
      by (Some ys) = refl
