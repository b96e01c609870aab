-- Parts while those of a row are merged into them.
use Rattle.std.proofs.Common.{◌≡◌, ◌<◌, ◌≤◌, ◌+◌, ◌==◌, ℕ, zero, suc, true, List, [], ◌∷◌, ◌++◌, map, length, take, cond, get_or, slice_get, slice_set, Some, refl, sym, ap, subst, ◌∙◌, arith}
use Rattle.std.specs.List.{list_all, flat_map}
use Rattle.std.proofs.lemmas.Bool.{eqb-true}
use Rattle.std.proofs.lemmas.List.Sums.{sum_by-cons}
use Rattle.blink_lists.specs.declared.limits.TheConstants.{MOST_ROWS}
use Rattle.blink_lists.proofs.GroupLemmas.{both}
use Rattle.blink_lists.proofs.SliceLemmas.{got}
use Rattle.late_decode.specs.declared.plan.Measure.{Measure}
use Rattle.late_decode.specs.declared.plan.Part.{Part}
use Rattle.late_decode.specs.declared.plan.Pick.{Pick}
use Rattle.late_decode.specs.Bounds.{is_bounded, are_parts}
use Rattle.late_decode.specs.Parts.{Picked, no_part, merged_part, merged_parts, part_over, parts_over}
use Rattle.code_group.specs.Plans.{is_of_fact, fact_picks, measure_picks}
use Rattle.code_group.specs.RowParts.{merged_until, HaveRoom}

-- the part at a place is not merged before its turn
pub until-get : (n : ℕ) (ms : List Measure) (xs ys : List Part) → slice_get (merged_until n ms xs ys) n ≡ slice_get xs n
until-get zero ms xs ys = refl
until-get (suc n) [] xs ys = refl
until-get (suc n) (m ∷ ms) [] ys = refl
until-get (suc n) (m ∷ ms) (x ∷ xs) [] = refl
until-get (suc n) (m ∷ ms) (x ∷ xs) (y ∷ ys) = until-get n ms xs ys

until-set : (n : ℕ) (ms : List Measure) (xs ys : List Part) (m : Measure) (x y : Part) → slice_get ms n ≡ Some m → slice_get xs n ≡ Some x → slice_get ys n ≡ Some y
    → slice_set (merged_until n ms xs ys) n (merged_part m x y) ≡ merged_until (suc n) ms xs ys
until-set n [] xs ys m x y e f g = cc
until-set n (a ∷ ms) [] ys m x y e f g = cc
until-set n (a ∷ ms) (b ∷ xs) [] m x y e f g = cc
until-set zero (a ∷ ms) (b ∷ xs) (c ∷ ys) m x y e f g =
    let one : m ≡ a = cc in
    let two : x ≡ b = cc in
    let three : y ≡ c = cc in
    λ i. merged_part (one i) (two i) (three i) ∷ xs
until-set (suc n) (a ∷ ms) (b ∷ xs) (c ∷ ys) m x y e f g = ap (λ l. merged_part a b c ∷ l) (until-set n ms xs ys m x y e f g)

until-all : (n : ℕ) (ms : List Measure) (xs ys : List Part) → length ms ≡ n → length xs ≡ n → length ys ≡ n → merged_until n ms xs ys ≡ merged_parts ms xs ys
until-all zero [] [] ys e f g = refl
until-all zero [] (x ∷ xs) ys e f g = absurd (omega (arith, f))
until-all zero (m ∷ ms) xs ys e f g = absurd (omega (arith, e))
until-all (suc n) [] xs ys e f g = absurd (omega (arith, e))
until-all (suc n) (m ∷ ms) [] ys e f g = absurd (omega (arith, f))
until-all (suc n) (m ∷ ms) (x ∷ xs) [] e f g = absurd (omega (arith, g))
until-all (suc n) (m ∷ ms) (x ∷ xs) (y ∷ ys) e f g = ap (λ l. merged_part m x y ∷ l) (until-all n ms xs ys (omega (arith, e)) (omega (arith, f)) (omega (arith, g)))

get-there : {X : Type 0} (xs : List X) (n : ℕ) (d : X) → n < length xs → slice_get xs n ≡ Some (get_or xs n d)
get-there [] n d lt = absurd (omega (arith, lt))
get-there (x ∷ xs) zero d lt = refl
get-there (x ∷ xs) (suc n) d lt = get-there xs n d (omega (arith, lt))

get-map : {X Y : Type 0} (f : X → Y) (xs : List X) (n : ℕ) (x : X) → slice_get xs n ≡ Some x → slice_get (map f xs) n ≡ Some (f x)
get-map f [] n x e = cc
get-map f (a ∷ xs) zero x e = let one : a ≡ x = cc in ap (λ z. Some (f z)) one
get-map f (a ∷ xs) (suc n) x e = get-map f xs n x e

pub length-map : {X Y : Type 0} (f : X → Y) (xs : List X) → length (map f xs) ≡ length xs
length-map f [] = refl
length-map f (x ∷ xs) = ap suc (length-map f xs)

bounded-at : (xs : List Part) (n : ℕ) (x : Part) → list_all is_bounded xs ≡ true → slice_get xs n ≡ Some x → is_bounded x ≡ true
bounded-at [] n x h e = cc
bounded-at (a ∷ xs) zero x h e = let one : a ≡ x = cc in subst (λ p. is_bounded p ≡ true) one (both (is_bounded a) (list_all is_bounded xs) h).0
bounded-at (a ∷ xs) (suc n) x h e = bounded-at xs n x (both (is_bounded a) (list_all is_bounded xs) h).1 e

module _ (ms : List Measure) (xs : List Part) (at : Picked) (good : are_parts ms xs ≡ true) where
  abbrev row : List Part
  row = parts_over ms (at ∷ [])

  parts : (length xs ≡ length ms) × (list_all is_bounded xs ≡ true)
  parts = let b = both (length xs == length ms) (list_all is_bounded xs) good in (eqb-true (length xs) (length ms) b.0, b.1)

  module _ (own : List Part) (n : ℕ) (x : Part) (so : own ≡ merged_until n ms xs row) (here : slice_get own n ≡ Some x) where
    old : slice_get xs n ≡ Some x
    old = sym (until-get n ms xs row) ∙ ap (λ l. slice_get l n) (sym so) ∙ here

    pub part-bounded : is_bounded x ≡ true
    part-bounded = bounded-at xs n x parts.1 old

    pub part-room : HaveRoom xs → x.count < MOST_ROWS
    part-room room = let few = room n in let same = ap (λ p. p.count) (got xs n x no_part old) in omega (arith, few, same)

    pub part-step : (m : Measure) (new : Part) → n < length ms → new ≡ merged_part (get_or ms n m) x (part_over (get_or ms n m) (at ∷ [])) → slice_set own n new ≡ merged_until (n + 1) ms xs row
    part-step m new lt e =
        let measure = get-there ms n m lt in
        let next : suc n ≡ n + 1 = omega arith in
        (λ i. slice_set (so i) n (e i))
        ∙ until-set n ms xs row (get_or ms n m) x (part_over (get_or ms n m) (at ∷ [])) measure old (get-map (λ measure. part_over measure (at ∷ [])) ms n (get_or ms n m) measure)
        ∙ ap (λ k. merged_until k ms xs row) next

  pub none-missing : (own : List Part) (n : ℕ) → own ≡ merged_until n ms xs row → n < length ms → n < length own
  none-missing own n so lt = omega (arith, ap (λ l. length l) so, long n ms xs row, parts.0, lt)
    where
      long : (n : ℕ) (ms : List Measure) (xs ys : List Part) → length (merged_until n ms xs ys) ≡ length xs
      long zero ms xs ys = refl
      long (suc n) [] xs ys = refl
      long (suc n) (m ∷ ms) [] ys = refl
      long (suc n) (m ∷ ms) (x ∷ xs) [] = refl
      long (suc n) (m ∷ ms) (x ∷ xs) (y ∷ ys) = ap suc (long n ms xs ys)

  pub part-end : (own : List Part) (n : ℕ) → own ≡ merged_until n ms xs row → length ms ≤ n → n ≤ length ms → own ≡ merged_parts ms xs row
  part-end own n so low high =
      let all : length ms ≡ n = omega (arith, low, high) in
      so ∙ until-all n ms xs row all (parts.0 ∙ all) (length-map (λ measure. part_over measure (at ∷ [])) ms ∙ all)

-- ---- picks of the fact

pub picks-append : (xs ys : List Pick) → fact_picks (xs ++ ys) ≡ fact_picks xs + fact_picks ys
picks-append [] ys = omega arith
picks-append (x ∷ xs) ys =
    let rest = picks-append xs ys in
    let one = sum_by-cons (λ p. cond (is_of_fact p) 1 0) x (xs ++ ys) in
    let all = sum_by-cons (λ p. cond (is_of_fact p) 1 0) x xs in
    omega (arith, rest, one, all)

picks-take : (n : ℕ) (ms : List Measure) (m : Measure) → slice_get ms n ≡ Some m
    → (fact_picks (flat_map measure_picks (take (suc n) ms)) ≡ fact_picks (flat_map measure_picks (take n ms)) + fact_picks (measure_picks m))
    × (fact_picks (flat_map measure_picks (take n ms)) + fact_picks (measure_picks m) ≤ fact_picks (flat_map measure_picks ms))
picks-take n [] m e = cc
picks-take zero (a ∷ ms) m e =
    let one : fact_picks (measure_picks a) ≡ fact_picks (measure_picks m) = let same : a ≡ m = cc in ap (λ z. fact_picks (measure_picks z)) same in
    let here = picks-append (measure_picks a) [] in
    let all = picks-append (measure_picks a) (flat_map measure_picks ms) in
    (omega (arith, one, here), omega (arith, one, all))
picks-take (suc n) (a ∷ ms) m e =
    let rest = picks-take n ms m e in
    let more = picks-append (measure_picks a) (flat_map measure_picks (take (suc n) ms)) in
    let some = picks-append (measure_picks a) (flat_map measure_picks (take n ms)) in
    let all = picks-append (measure_picks a) (flat_map measure_picks ms) in
    (omega (arith, rest.0, more, some), omega (arith, rest.1, some, all))

pub picks-more : (n : ℕ) (ms : List Measure) (m : Measure) → n < length ms
    → fact_picks (flat_map measure_picks (take (n + 1) ms)) ≡ fact_picks (flat_map measure_picks (take n ms)) + fact_picks (measure_picks (get_or ms n m))
picks-more n ms m lt =
    let next : n + 1 ≡ suc n = omega arith in
    ap (λ k. fact_picks (flat_map measure_picks (take k ms))) next ∙ (picks-take n ms (get_or ms n m) (get-there ms n m lt)).0

pub picks-within : (n : ℕ) (ms : List Measure) (m : Measure) → n < length ms
    → fact_picks (flat_map measure_picks (take n ms)) + fact_picks (measure_picks (get_or ms n m)) ≤ fact_picks (flat_map measure_picks ms)
picks-within n ms m lt = (picks-take n ms (get_or ms n m) (get-there ms n m lt)).1
