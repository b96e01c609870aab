-- Parts that are merged one after another, from the last one down.
use Rattle.std.proofs.Common.{◌≡◌, ◌≤◌, ◌<◌, ◌+◌, ◌^◌, ℕ, zero, suc, Bool, true, List, [], ◌∷◌, ◌++◌, length, slice_get, slice_set, slice_index_or, Some, refl, sym, ap, subst, ◌∙◌, arith}
use Rattle.std.specs.List.{list_all}
use Rattle.std.proofs.lemmas.List.Folds.{list_all-append}
use Rattle.blink_lists.specs.declared.limits.TheConstants.{MOST_ROWS}
use Rattle.blink_lists.proofs.GroupLemmas.{both, and_both}
use Rattle.late_decode.specs.declared.plan.Measure.{Measure}
use Rattle.late_decode.specs.declared.plan.Part.{Part}
use Rattle.late_decode.specs.Bounds.{is_bounded, are_parts}
use Rattle.late_decode.specs.Parts.{no_part, merged_part, merged_parts}
use Rattle.late_decode.specs.PartSteps.{merged_front, AreFew}
use Rattle.late_decode.proofs.BoundLemmas.{parts_of, sum_bounded}

-- parts, of which those that are left are still to be merged, where the whole is known
pub record IsMerging (measures : List Measure) (whole own rest : List Part) : Type 0 where
  pub same : merged_front measures own rest ≡ whole
  pub long : length own ≡ length measures
  pub fits : length rest ≤ length measures
  pub own_bounded : list_all is_bounded own ≡ true
  pub rest_bounded : list_all is_bounded rest ≡ true
  pub few : AreFew own rest

front_whole : (ms : List Measure) (xs ys : List Part) → length xs ≡ length ms → length ys ≡ length ms → merged_front ms xs ys ≡ merged_parts ms xs ys
front_whole [] [] ys e f = refl
front_whole [] (x ∷ xs) ys e f = absurd (omega (arith, e))
front_whole (m ∷ ms) [] ys e f = absurd (omega (arith, e))
front_whole (m ∷ ms) (x ∷ xs) [] e f = absurd (omega (arith, f))
front_whole (m ∷ ms) (x ∷ xs) (y ∷ ys) e f = ap (λ l. merged_part m x y ∷ l) (front_whole ms xs ys (omega (arith, e)) (omega (arith, f)))

front_nothing : (ms : List Measure) (xs : List Part) → merged_front ms xs [] ≡ xs
front_nothing [] xs = refl
front_nothing (m ∷ ms) [] = refl
front_nothing (m ∷ ms) (x ∷ xs) = refl

-- the last of some parts, merged
front_step : (ms : List Measure) (xs ys : List Part) (m d : Measure) (x y : Part) → length ys < length ms → slice_index_or ms (length ys) d ≡ m → slice_get xs (length ys) ≡ Some x
    → merged_front ms (slice_set xs (length ys) (merged_part m x y)) ys ≡ merged_front ms xs (ys ++ y ∷ [])
front_step [] xs ys m d x y lt e f = absurd (omega (arith, lt))
front_step (n ∷ ms) [] ys m d x y lt e f = cc
front_step (n ∷ ms) (z ∷ xs) [] m d x y lt e f =
    let one : z ≡ x = cc in
    λ i. merged_part (sym e i) (sym one i) y ∷ sym (front_nothing ms xs) i
front_step (n ∷ ms) (z ∷ xs) (w ∷ ys) m d x y lt e f = ap (λ l. merged_part n z w ∷ l) (front_step ms xs ys m d x y (omega (arith, lt)) e f)

pub all_got : {X : Type 0} (p : X → Bool) (xs : List X) (k : ℕ) (x : X) → list_all p xs ≡ true → slice_get xs k ≡ Some x → p x ≡ true
all_got p [] k x h e = cc
all_got p (y ∷ xs) zero x h e = let one : y ≡ x = cc in subst (λ z. p z ≡ true) one (both (p y) (list_all p xs) h).0
all_got p (y ∷ xs) (suc k) x h e = all_got p xs k x (both (p y) (list_all p xs) h).1 e

all_set : {X : Type 0} (p : X → Bool) (xs : List X) (k : ℕ) (z : X) → p z ≡ true → list_all p xs ≡ true → list_all p (slice_set xs k z) ≡ true
all_set p [] k z g h = refl
all_set p (y ∷ xs) zero z g h = and_both (p z) (list_all p xs) g (both (p y) (list_all p xs) h).1
all_set p (y ∷ xs) (suc k) z g h = let b = both (p y) (list_all p xs) h in and_both (p y) (list_all p (slice_set xs k z)) b.0 (all_set p xs k z g b.1)

length_set : {X : Type 0} (xs : List X) (k : ℕ) (z : X) → length (slice_set xs k z) ≡ length xs
length_set [] k z = refl
length_set (y ∷ xs) zero z = refl
length_set (y ∷ xs) (suc k) z = ap suc (length_set xs k z)

length_more : {X : Type 0} (xs : List X) (x : X) → length (xs ++ x ∷ []) ≡ length xs + 1
length_more [] x = refl
length_more (y ∷ xs) x = let more = length_more xs x in omega (arith, more)

-- the count at the last place
few_there : (xs ys : List Part) (x y : Part) → slice_get xs (length ys) ≡ Some x → AreFew xs (ys ++ y ∷ []) → x.count + y.count ≤ MOST_ROWS
few_there [] ys x y e h = cc
few_there (z ∷ xs) [] x y e h = let one : z ≡ x = cc in subst (λ w. w.count + y.count ≤ MOST_ROWS) one (h 0)
few_there (z ∷ xs) (w ∷ ys) x y e h = few_there xs ys x y e (λ k. h (suc k))

few_set : (xs ys : List Part) (x y z : Part) → slice_get xs (length ys) ≡ Some x → z.count ≤ MOST_ROWS → AreFew xs (ys ++ y ∷ []) → AreFew (slice_set xs (length ys) z) ys
few_set [] ys x y z e g h = cc
few_set (w ∷ xs) [] x y z e g h = λ k. at k
  where
    at : (k : ℕ) → (slice_index_or (z ∷ xs) k no_part).count + (slice_index_or [] k no_part).count ≤ MOST_ROWS
    at zero = omega (arith, g)
    at (suc k) = h (suc k)
few_set (w ∷ xs) (v ∷ ys) x y z e g h = at (few_set xs ys x y z e g (λ j. h (suc j)))
  where
    at : AreFew (slice_set xs (length ys) z) ys → (k : ℕ) → (slice_index_or (w ∷ slice_set xs (length ys) z) k no_part).count + (slice_index_or (v ∷ ys) k no_part).count ≤ MOST_ROWS
    at rest zero = h 0
    at rest (suc k) = rest k

pub start : (measures : List Measure) (own parts : List Part) → are_parts measures own ≡ true → are_parts measures parts ≡ true → AreFew own parts
    → IsMerging measures (merged_parts measures own parts) own parts
start measures own parts h k few =
    let a = parts_of measures own h in
    let b = parts_of measures parts k in
    record {
      same = front_whole measures own parts a.0 b.0;
      long = a.0;
      fits = let e = b.0 in omega (arith, e);
      own_bounded = a.1;
      rest_bounded = b.1;
      few = few;
    }

module _ (measures : List Measure) (whole own rest ys : List Part) (y : Part) (n : ℕ) (split : rest ≡ ys ++ y ∷ []) (place : n ≡ length ys) (so_far : IsMerging measures whole own rest) where
  here : IsMerging measures whole own (ys ++ y ∷ [])
  here = subst (IsMerging measures whole own) split so_far

  last_within : length ys < length measures
  last_within = let more = length_more ys y in let fits = here.fits in omega (arith, more, fits)

  pub last_bounded : (x : Part) → slice_get own n ≡ Some x → is_bounded x ≡ true
  last_bounded x e = all_got is_bounded own n x so_far.own_bounded e

  pub last_few : (x : Part) → slice_get own n ≡ Some x → x.count + y.count ≤ MOST_ROWS
  last_few x e = few_there own ys x y (rw place at e) here.few

  pub step : (m d : Measure) (x z : Part) → slice_index_or measures n d ≡ m → slice_get own n ≡ Some x → z ≡ merged_part m x y → IsMerging measures whole (slice_set own n z) ys
  step m d x z e f same =
      let at : slice_get own (length ys) ≡ Some x = rw place at f in
      let of : slice_index_or measures (length ys) d ≡ m = rw place at e in
      let parts = both (list_all is_bounded ys) (list_all is_bounded (y ∷ [])) (sym (list_all-append is_bounded ys (y ∷ [])) ∙ here.rest_bounded) in
      let mine = (both (is_bounded y) true parts.1).0 in
      let there = last_bounded x f in
      let done : IsMerging measures whole (slice_set own (length ys) (merged_part m x y)) ys = record {
        same = front_step measures own ys m d x y last_within of at ∙ here.same;
        long = length_set own (length ys) (merged_part m x y) ∙ here.long;
        fits = let lt = last_within in omega (arith, lt);
        own_bounded = all_set is_bounded own (length ys) (merged_part m x y) (sum_bounded (10 ^ 30) x.count y.count x.sum y.sum there mine) here.own_bounded;
        rest_bounded = parts.0;
        few = few_set own ys x y (merged_part m x y) at (last_few x f) here.few;
      } in
      subst (λ w. IsMerging measures whole w ys) (λ i. slice_set own (sym place i) (sym same i)) done

pub end : (measures : List Measure) (whole own rest : List Part) → length rest ≡ 0 → IsMerging measures whole own rest → own ≡ whole
end measures whole own [] none so_far = sym (front_nothing measures own) ∙ so_far.same
end measures whole own (y ∷ rest) none so_far = absurd (omega (arith, none))
