-- What stands in a list, and what the best of a list costs.
use Rattle.std.proofs.Common.{ℕ, zero, suc, ◌+◌, ◌-◌, ◌^◌, ◌≤◌, ◌<◌, ◌≡◌, ◌&&◌, ◌⊎◌, List, [], ◌∷◌, map, fold, true, false, nat_le, nat_lt, ◌==◌, le_of_lt, inl, inr, refl, arith, le_refl, le_trans, length}
use Rattle.std.specs.declared.cmp.Ordering.{Ordering}
use Rattle.std.specs.Ordering.{is_lt, ordering_then, nat_cmp, on, then_cmp}
use Rattle.std.specs.Cmp.Lexicographic.{slice_cmp}
use Rattle.std.proofs.lemmas.Bool.{cases_Bool, and_from, lt-ltb, le-leb, ltb-true, ltb-false, eqb-true, both_ways, cond_both}
use Rattle.blink_lists.specs.Lists.{numbers_from}
use Rattle.blink_lists.specs.Widths.{width_for}
use Rattle.blink_lists.specs.declared.limits.TheConstants.{MOST_WIDTH}
use Rattle.freq_partition.specs.Division.{Division, division_cmp, better, fronts}
use Rattle.blink_lists.proofs.MemberLemmas.{Among, Among-map, Among-flat_map, Among-filter, Among-numbers}

-- no width but the last class's is always a front
pub no_front : (more least n : ℕ) → Among [] (fronts more least n)
unfolding fronts
no_front zero least n = inl refl
no_front (suc more) least n = inl refl

-- a width before a front is one
pub front-cons : (more least n w : ℕ) (rest : List ℕ) → least ≤ w → w ≤ MOST_WIDTH → 2 ^ w < n → w ≤ width_for (n - 2 ^ w) → Among rest (fronts more w (n - 2 ^ w)) → Among (w ∷ rest) (fronts (suc more) least n)
unfolding fronts
front-cons more least n w rest low high room least_last h =
    inr (Among-flat_map (λ v. map (λ (r : List ℕ). v ∷ r) (fronts more v (n - 2 ^ v))) w (w ∷ rest) _
    (Among-filter (λ v. nat_lt (2 ^ v) n && nat_le v (width_for (n - 2 ^ v))) w (numbers_from least (MOST_WIDTH + 1 - least)) (and_from _ _ (lt-ltb _ _ room) (le-leb _ _ least_last)) (Among-numbers w least (MOST_WIDTH + 1 - least) low (omega arith)))
    (Among-map (λ (r : List ℕ). w ∷ r) rest _ h))

-- where a cost goes first, the answer tells which is at most the other
lesser : (a b : ℕ) (next : Ordering) → ((is_lt (ordering_then (nat_cmp b a) next) ≡ true) × (b ≤ a)) ⊎ ((is_lt (ordering_then (nat_cmp b a) next) ≡ false) × (a ≤ b))
lesser a b next = elim (cases_Bool (nat_lt b a)) [
  | inl e ↦ rw e (inl (refl, le_of_lt (ltb-true b a e)))
  | inr e ↦ rw e (elim (cases_Bool (b == a)) [
    | inl s ↦ rw s (let same = eqb-true b a s in elim (cases_Bool (is_lt next)) [ inl t ↦ inl (t, omega arith) | inr f ↦ inr (f, omega arith) ])
    | inr d ↦ rw d (inr (refl, ltb-false b a e))
  ])
]

-- the better of two costs at most either
better-cost : (x y : Division) → ((better x y).cost ≤ x.cost) × ((better x y).cost ≤ y.cost)
better-cost x y = elim (lesser x.cost y.cost (then_cmp (on (λ d. length d.widths) nat_cmp) (on (λ d. d.widths) (slice_cmp nat_cmp)) y x)) [
  | inl h ↦ let P : Division → Type 0 = λ d. (d.cost ≤ x.cost) × (d.cost ≤ y.cost) in
      cond_both (is_lt (division_cmp y x)) y x P (λ e. (h.1, le_refl _)) (λ e. absurd (both_ways _ e h.0))
  | inr h ↦ let P : Division → Type 0 = λ d. (d.cost ≤ x.cost) × (d.cost ≤ y.cost) in
      cond_both (is_lt (division_cmp y x)) y x P (λ e. absurd (both_ways _ h.0 e)) (λ e. (le_refl _, h.1))
]

-- the best of a list costs at most each of it
pub best-cost : (best x : Division) (xs : List Division) → ((fold better best xs).cost ≤ best.cost) × (Among x xs → (fold better best xs).cost ≤ x.cost)
best-cost best x [] = (le_refl _, λ h. absurd h)
best-cost best x (y ∷ ys) =
    let here = better-cost best y in
    let rest = best-cost (better best y) x ys in
    (le_trans rest.0 here.0, λ h. elim h [ inl e ↦ rw e (le_trans rest.0 here.1) | inr i ↦ rest.1 i ])
