-- The sizes of the classes of a division.
use Rattle.std.proofs.Common.{◌≡◌, ℕ, zero, suc, ◌+◌, ◌-◌, ◌^◌, ◌≤◌, Bool, true, false, ◌&&◌, ◌==◌, List, [], ◌∷◌, map, filter, fold, length, sum, nat_le, nat_lt, refl, ◌∙◌, arith}
use Rattle.std.specs.List.{list_all}
use Rattle.std.specs.Ordering.{is_lt}
use Rattle.std.proofs.Math.Pow.{pow_mono}
use Rattle.std.proofs.lemmas.Bool.{and_parts, and_from, ltb-true, le-leb, leb-true, eqb-true, eq-eqb, cond_both}
use Rattle.std.proofs.lemmas.List.Folds.{list_all-map}
use Rattle.blink_lists.specs.Lists.{numbers_from}
use Rattle.blink_lists.specs.Widths.{width_for}
use Rattle.blink_lists.specs.declared.limits.TheConstants.{MOST_WIDTH, MOST_CLASSES}
use Rattle.freq_partition.specs.Division.{Division, division_cmp, better, best_division, single_division, one_class, candidates, fronts, sizes_of, divided_by}
use Rattle.blink_lists.proofs.SumLemmas.{sum-cons}
use Rattle.column_classes.specs.ColumnClasses.{division_if}
use Rattle.blink_lists.proofs.GroupLemmas.{all-imply}
use Rattle.blink_lists.proofs.AllLemmas.{all-passing, all-flat_map}

-- at most so many sizes, each at least 1, together n
abbrev pub are_sizes : ℕ → ℕ → List ℕ → Bool
are_sizes most n sizes = nat_le (length sizes) most && list_all (nat_le 1) sizes && sum sizes == n

-- one size more in front
sizes-cons : (most n s : ℕ) (sizes : List ℕ) → 1 ≤ s → s ≤ n → are_sizes most (n - s) sizes ≡ true → are_sizes (suc most) n (s ∷ sizes) ≡ true
sizes-cons most n s sizes some low good =
    let parts = and_parts (nat_le (length sizes) most && list_all (nat_le 1) sizes) (sum sizes == n - s) good in
    let front = and_parts (nat_le (length sizes) most) (list_all (nat_le 1) sizes) parts.0 in
    let few = leb-true (length sizes) most front.0 in
    let together = eqb-true (sum sizes) (n - s) parts.1 in
    let whole = sum-cons s sizes in
    and_from (nat_le (length (s ∷ sizes)) (suc most) && list_all (nat_le 1) (s ∷ sizes)) (sum (s ∷ sizes) == n)
    (and_from (nat_le (length (s ∷ sizes)) (suc most)) (list_all (nat_le 1) (s ∷ sizes)) (le-leb _ _ (omega arith)) (and_from (nat_le 1 s) (list_all (nat_le 1) sizes) (le-leb 1 s some) front.1))
    (eq-eqb _ _ (omega arith))

sizes-one : (most n : ℕ) → 1 ≤ n → are_sizes (suc most) n (n ∷ []) ≡ true
sizes-one most n some =
    let whole = sum-cons n [] in
    and_from (nat_le 1 (suc most) && list_all (nat_le 1) (n ∷ [])) (sum (n ∷ []) == n)
    (and_from (nat_le 1 (suc most)) (list_all (nat_le 1) (n ∷ [])) (le-leb _ _ (omega arith)) (and_from (nat_le 1 n) true (le-leb 1 n some) refl))
    (eq-eqb _ _ (omega arith))

fronts_good : (more least n : ℕ) → 1 ≤ n → list_all (λ front. are_sizes (suc more) n (sizes_of front n)) (fronts more least n) ≡ true
unfolding fronts
fronts_good zero least n some = and_from (are_sizes 1 n (n ∷ [])) true (sizes-one 0 n some) refl
fronts_good (suc more) least n some =
    and_from (are_sizes (suc (suc more)) n (n ∷ [])) _ (sizes-one (suc more) n some)
    (all-flat_map good with_front (filter test (numbers_from least (MOST_WIDTH + 1 - least)))
    ∙ all-imply test (λ w. list_all good (with_front w)) (each (λ w some_left. fronts_good more w (n - 2 ^ w) some_left)) (filter test (numbers_from least (MOST_WIDTH + 1 - least))) (all-passing test (numbers_from least (MOST_WIDTH + 1 - least))))
  where
    test : ℕ → Bool
    test w = nat_lt (2 ^ w) n && nat_le w (width_for (n - 2 ^ w))

    good : List ℕ → Bool
    good front = are_sizes (suc (suc more)) n (sizes_of front n)

    with_front : ℕ → List (List ℕ)
    with_front w = map (λ (rest : List ℕ). w ∷ rest) (fronts more w (n - 2 ^ w))

    each : ((w : ℕ) → 1 ≤ n - 2 ^ w → list_all (λ front. are_sizes (suc more) (n - 2 ^ w) (sizes_of front (n - 2 ^ w))) (fronts more w (n - 2 ^ w)) ≡ true)
        → (w : ℕ) → test w ≡ true → list_all good (with_front w) ≡ true
    each shorter w passes =
        let low = ltb-true (2 ^ w) n (and_parts (nat_lt (2 ^ w) n) (nat_le w (width_for (n - 2 ^ w))) passes).0 in
        let some_w = pow_mono {i = 0} {j = w} (omega arith) in
        list_all-map good (λ (rest : List ℕ). w ∷ rest) (fronts more w (n - 2 ^ w))
        ∙ all-imply (λ front. are_sizes (suc more) (n - 2 ^ w) (sizes_of front (n - 2 ^ w))) (λ rest. good (w ∷ rest))
        (λ rest h. sizes-cons (suc more) n (2 ^ w) (sizes_of rest (n - 2 ^ w)) (omega arith) (omega arith) h) (fronts more w (n - 2 ^ w)) (shorter w (omega arith))

-- what all of a list pass, its best passes
best_passes : (p : Division → Bool) (best : Division) (xs : List Division) → p best ≡ true → list_all p xs ≡ true → p (fold better best xs) ≡ true
best_passes p best [] first all = first
best_passes p best (x ∷ xs) first all =
    let parts = and_parts (p x) (list_all p xs) all in
    best_passes p (better best x) xs (cond_both (is_lt (division_cmp x best)) x best (λ d. p d ≡ true) (λ e. parts.0) (λ e. first)) parts.1

pub best_sizes : (counts : List ℕ) → are_sizes MOST_CLASSES (length counts) (best_division counts).sizes ≡ true
unfolding candidates
best_sizes [] = refl
best_sizes (c ∷ counts) =
    best_passes (λ d. are_sizes 4 (length (c ∷ counts)) d.sizes) (one_class (c ∷ counts)) (candidates (c ∷ counts)) (sizes-one 3 (length (c ∷ counts)) (omega arith))
    (list_all-map (λ (d : Division). are_sizes 4 (length (c ∷ counts)) d.sizes) (λ (front : List ℕ). divided_by (c ∷ counts) (sizes_of front (length (c ∷ counts)))) (fronts 3 1 (length (c ∷ counts)))
    ∙ fronts_good 3 1 (length (c ∷ counts)) (omega arith))

pub single_sizes : (counts : List ℕ) → are_sizes MOST_CLASSES (length counts) (single_division counts).sizes ≡ true
single_sizes [] = refl
single_sizes (c ∷ counts) = sizes-one 3 (length (c ∷ counts)) (omega arith)

pub sizes_if : (chosen : Bool) (counts : List ℕ) → are_sizes MOST_CLASSES (length counts) (division_if chosen counts).sizes ≡ true
sizes_if true counts = best_sizes counts
sizes_if false counts = single_sizes counts

-- a column that is not chosen has at most one class
pub one_if_not : (counts : List ℕ) → nat_lt 1 (length (division_if false counts).sizes) ≡ false
one_if_not [] = refl
one_if_not (c ∷ counts) = refl
