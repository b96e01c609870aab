-- Tests of elements by their places.
use Rattle.std.proofs.Common.{◌≡◌, ℕ, zero, suc, ◌+◌, ◌<◌, Bool, true, not, ◌&&◌, ◌||◌, ◌==◌, List, [], ◌∷◌, map, filter, length, slice_index_or, cond, refl, sym, ap, ◌∙◌, subst, arith}
use Rattle.std.specs.List.{list_all}
use Rattle.std.proofs.lemmas.Bool.{eq-eqb, ne_eqb}
use Rattle.blink_lists.specs.Lists.{choices, numbers_from}
use Rattle.blink_lists.specs.Products.{each_passes}
use Rattle.blink_lists.proofs.BoolLemmas.{and-true, and-pairs, all-true, all-and}
use Rattle.blink_lists.proofs.ProductLemmas.{filter-flat, filter-map, flat-same}

module _ {X : Type 0} where
  pub each-same : (p q : ℕ → X → Bool) → ((d : ℕ) (x : X) → p d x ≡ q d x) → (from : ℕ) (rows : List X) → each_passes p from rows ≡ each_passes q from rows
  each-same p q h from rows = λ i. each_passes (λ d x. h d x i) from rows

  pub each-and : (p q : ℕ → X → Bool) (from : ℕ) (rows : List X) → each_passes (λ d x. p d x && q d x) from rows ≡ (each_passes p from rows && each_passes q from rows)
  each-and p q from [] = refl
  each-and p q from (x ∷ rows) = ap (λ b. (p from x && q from x) && b) (each-and p q (from + 1) rows) ∙ and-pairs (p from x) (q from x) (each_passes p (from + 1) rows) (each_passes q (from + 1) rows)

  -- tests place by place, or test by test
  pub each-all : {T : Type 0} (h : T → ℕ → X → Bool) (ts : List T) (from : ℕ) (rows : List X) → each_passes (λ d x. list_all (λ t. h t d x) ts) from rows ≡ list_all (λ t. each_passes (h t) from rows) ts
  each-all h ts from [] = sym (all-true ts)
  each-all h ts from (x ∷ rows) = ap (λ b. list_all (λ t. h t from x) ts && b) (each-all h ts (from + 1) rows) ∙ sym (all-and (λ t. h t from x) (λ t. each_passes (h t) (from + 1) rows) ts)

  each-beyond : (h : ℕ → X → Bool) (k from : ℕ) (rows : List X) → k < from → each_passes (λ d x. not (k == d) || h d x) from rows ≡ true
  each-beyond h k from [] l = refl
  each-beyond h k from (x ∷ rows) l = rw (ne_eqb k from (λ e. omega (arith, e, l))) (each-beyond h k (from + 1) rows (omega (arith, l)))

  -- a test at one place alone
  pub each-at : (h : ℕ → X → Bool) (d : X) (k from j : ℕ) (rows : List X) → k ≡ from + j → j < length rows → each_passes (λ t x. not (k == t) || h t x) from rows ≡ h k (slice_index_or rows j d)
  each-at h d k from j [] e l = absurd (omega (arith, l))
  each-at h d k from zero (x ∷ rows) e l =
      let here : k ≡ from = omega (arith, e) in
      rw (eq-eqb k from here, each-beyond h k (from + 1) rows (omega (arith, here))) (and-true (h from x) ∙ ap (λ n. h n x) (sym here))
  each-at h d k from (suc j) (x ∷ rows) e l = rw (ne_eqb k from (λ f. omega (arith, e, f))) (each-at h d k (from + 1) j rows (omega (arith, e)) (omega (arith, l)))

  -- each place by its number
  each-numbers : (p : ℕ → X → Bool) (d : X) (whole : List X) (n : ℕ) (rows : List X) → ((j : ℕ) → slice_index_or whole (n + j) d ≡ slice_index_or rows j d)
      → each_passes p n rows ≡ list_all (λ k. p k (slice_index_or whole k d)) (numbers_from n (length rows))
  each-numbers p d whole n [] h = refl
  each-numbers p d whole n (x ∷ rows) h =
      let here : slice_index_or whole n d ≡ x = subst (λ k. slice_index_or whole k d ≡ x) (omega arith) (h 0) in
      let more : (j : ℕ) → slice_index_or whole (n + 1 + j) d ≡ slice_index_or rows j d = λ j. subst (λ k. slice_index_or whole k d ≡ slice_index_or rows j d) (omega arith) (h (suc j)) in
      ap (λ b. p n x && b) (each-numbers p d whole (n + 1) rows more) ∙ ap (λ y. p n y && list_all (λ k. p k (slice_index_or whole k d)) (numbers_from (n + 1) (length rows))) (sym here)

  pub each-number : (p : ℕ → X → Bool) (d : X) (rows : List X) → each_passes p 0 rows ≡ list_all (λ k. p k (slice_index_or rows k d)) (numbers_from 0 (length rows))
  each-number p d rows = each-numbers p d rows 0 rows (λ j. ap (λ k. slice_index_or rows k d) (omega arith))

  -- choices have one element per list
  pub filter-choices-same : (p q : List X → Bool) (xss : List (List X)) → ((rows : List X) → length rows ≡ length xss → p rows ≡ q rows) → filter p (choices xss) ≡ filter q (choices xss)
  filter-choices-same p q [] h = ap (λ b. cond b ([] ∷ []) []) (h [] refl)
  filter-choices-same p q (xs ∷ rest) h =
      filter-flat p (λ x. map (λ chosen. x ∷ chosen) (choices rest)) xs
      ∙ flat-same (λ x. filter p (map (λ chosen. x ∷ chosen) (choices rest))) (λ x. filter q (map (λ chosen. x ∷ chosen) (choices rest)))
      (λ x. filter-map p (λ chosen. x ∷ chosen) (choices rest)
      ∙ ap (map (λ chosen. x ∷ chosen)) (filter-choices-same (λ ys. p (x ∷ ys)) (λ ys. q (x ∷ ys)) rest (λ ys l. h (x ∷ ys) (ap (λ n. suc n) l)))
      ∙ sym (filter-map q (λ chosen. x ∷ chosen) (choices rest))) xs
      ∙ sym (filter-flat q (λ x. map (λ chosen. x ∷ chosen) (choices rest)) xs)
