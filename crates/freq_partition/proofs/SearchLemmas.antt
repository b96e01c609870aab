-- The steps of the search over fronts.
use Rattle.std.proofs.Common.{ℕ, zero, suc, ◌+◌, ◌-◌, ◌^◌, ◌≤◌, ◌<◌, ◌≡◌, ◌&&◌, Bool, true, false, List, [], ◌∷◌, ◌++◌, map, filter, take, drop, length, fold, sum, nat_lt, nat_le, refl, sym, ap, ap₂, ◌∙◌, arith, append_assoc, length-drop}
use Rattle.std.specs.List.{flat_map}
use Rattle.std.proofs.lemmas.List.{map-append}
use Rattle.std.proofs.lemmas.List.Sums.{fold-append}
use Rattle.blink_lists.specs.Lists.{numbers_from}
use Rattle.blink_lists.specs.Widths.{width_for}
use Rattle.blink_lists.specs.declared.limits.TheConstants.{MOST_WIDTH}
use Rattle.freq_partition.specs.Candidate.{with_class}
use Rattle.freq_partition.specs.Division.{Division, better, one_class, no_classes, candidates, best_division, divided_by, sizes_of, fronts}
use Rattle.freq_partition.specs.Search.{behind, best_among}
use Rattle.blink_lists.proofs.WidthLemmas.{width_for-pow}

-- whether a class of this width may stand in front
abbrev pub is_front_of : ℕ → ℕ → Bool
is_front_of n w = nat_lt (2 ^ w) n && nat_le w (width_for (n - 2 ^ w))

-- the fronts whose first width is w or more
unfoldable pub fronts_from : ℕ → ℕ → ℕ → List (List ℕ)
fronts_from more w n = flat_map (λ v. map (λ rest. v ∷ rest) (fronts more v (n - 2 ^ v))) (filter (is_front_of n) (numbers_from w (MOST_WIDTH + 1 - w)))

-- divisions with equal parts are equal
same_division : (u v : List ℕ) (s t : List ℕ) (a b : ℕ) → u ≡ v → s ≡ t → a ≡ b → let x : Division = record { widths = u; sizes = s; cost = a } in let y : Division = record { widths = v; sizes = t; cost = b } in x ≡ y
same_division u v s t a b e f g = cc

-- one class of all, as a class behind
pub with_all : (p : Division) (counts : List ℕ) → with_class p (width_for (length counts)) (length counts) (sum (take (length counts) counts)) ≡ behind p (one_class counts)
with_all p counts = same_division _ _ _ _ _ _ refl refl (omega arith)

-- a full class in front, as a class behind
one_more : (p : Division) (w : ℕ) (front counts : List ℕ) → 1 ≤ w → w ≤ MOST_WIDTH → behind p (divided_by counts (sizes_of (w ∷ front) (length counts))) ≡ behind (with_class p w (2 ^ w) (sum (take (2 ^ w) counts))) (divided_by (drop (2 ^ w) counts) (sizes_of front (length (drop (2 ^ w) counts))))
one_more p w front counts low high =
    let exact = width_for-pow w low high in
    rw (exact, length-drop (2 ^ w) counts) (same_division _ _ _ _ _ _ (sym (append_assoc p.widths (w ∷ []) _)) (sym (append_assoc p.sizes (2 ^ w ∷ []) _)) (omega arith))

best_among-append : (best p : Division) (counts : List ℕ) (xs ys : List (List ℕ)) → best_among best p counts (xs ++ ys) ≡ best_among (best_among best p counts xs) p counts ys
unfolding best_among
best_among-append best p counts xs ys =
    let f = λ (front : List ℕ). behind p (divided_by counts (sizes_of front (length counts))) in
    rw map-append (fold-append better best (map f xs) (map f ys))

best_among-map : (p : Division) (w : ℕ) (counts : List ℕ) → 1 ≤ w → w ≤ MOST_WIDTH → (all : List (List ℕ)) (best : Division) → best_among best p counts (map (λ rest. w ∷ rest) all) ≡ best_among best (with_class p w (2 ^ w) (sum (take (2 ^ w) counts))) (drop (2 ^ w) counts) all
unfolding best_among
best_among-map p w counts low high [] best = refl
best_among-map p w counts low high (front ∷ all) best =
    rw (one_more p w front counts low high) (best_among-map p w counts low high all _)

-- the search starts with the division that cuts nothing in front
pub starts : (best p first next : Division) (more least n : ℕ) (counts : List ℕ) → first ≡ behind p (one_class counts) → next ≡ better best first → 0 < more → best_among next p counts (fronts_from (more - 1) least n) ≡ best_among best p counts (fronts more least n)
unfolding best_among fronts_from fronts
starts best p first next zero least n counts e f some = absurd (omega arith)
starts best p first next (suc more) least n counts e f some = let d : suc more - 1 ≡ more = omega arith in rw (f, e, d) refl

-- and has no more to try where nothing may be cut
pub none_in_front : (best p first next : Division) (least n : ℕ) (counts : List ℕ) → first ≡ behind p (one_class counts) → next ≡ better best first → next ≡ best_among best p counts (fronts zero least n)
unfolding best_among fronts
none_in_front best p first next least n counts e f = rw (f, e) refl

numbers_from-first : (w : ℕ) → w ≤ MOST_WIDTH → numbers_from w (MOST_WIDTH + 1 - w) ≡ w ∷ numbers_from (w + 1) (MOST_WIDTH + 1 - (w + 1))
numbers_from-first w h = let e : MOST_WIDTH + 1 - w ≡ suc (MOST_WIDTH + 1 - (w + 1)) = omega arith in rw e refl

fronts_from-cons : (more w n : ℕ) → w ≤ MOST_WIDTH → is_front_of n w ≡ true → fronts_from more w n ≡ map (λ rest. w ∷ rest) (fronts more w (n - 2 ^ w)) ++ fronts_from more (w + 1) n
unfolding fronts_from
fronts_from-cons more w n h may = rw (numbers_from-first w h) (rw (may, filter) refl)

-- the search goes over all fronts with the width, and then over those with wider ones
pub goes_on : (best p q next : Division) (more w size n m : ℕ) (counts rest : List ℕ) → size ≡ 2 ^ w → q ≡ with_class p w size (sum (take size counts)) → rest ≡ drop size counts → m ≡ n - size → next ≡ best_among best q rest (fronts more w m) → 1 ≤ w → w ≤ MOST_WIDTH → is_front_of n w ≡ true → best_among next p counts (fronts_from more (w + 1) n) ≡ best_among best p counts (fronts_from more w n)
goes_on best p q next more w size n m counts rest d e f g h low high may =
    rw (fronts_from-cons more w n high may, best_among-append, best_among-map p w counts low high (fronts more w (n - 2 ^ w)) best, h, e, f, g, d) refl

-- the search passes over a width that may not stand in front
pub passes_over : (more w n : ℕ) → w ≤ MOST_WIDTH → is_front_of n w ≡ false → fronts_from more w n ≡ fronts_from more (w + 1) n
unfolding fronts_from
passes_over more w n h not_front = rw (numbers_from-first w h) (rw (not_front, filter) refl)

-- and ends behind the greatest width
pub ends : (best p : Division) (more w n : ℕ) (counts : List ℕ) → MOST_WIDTH < w → best_among best p counts (fronts_from more w n) ≡ best
unfolding best_among fronts_from
ends best p more w n counts h = let e : MOST_WIDTH + 1 - w ≡ 0 = omega arith in rw e refl

-- a division behind no classes is itself
behind_none : (d : Division) → behind no_classes d ≡ d
behind_none d = same_division d.widths d.widths d.sizes d.sizes (0 + d.cost) d.cost refl refl (omega arith)

behind_none_all : (counts : List ℕ) (all : List (List ℕ)) (best : Division) → best_among best no_classes counts all ≡ fold better best (map (λ front. divided_by counts (sizes_of front (length counts))) all)
unfolding best_among
behind_none_all counts [] best = refl
behind_none_all counts (front ∷ all) best = rw (behind_none (divided_by counts (sizes_of front (length counts)))) (behind_none_all counts all _)

-- the search from no classes on goes over the divisions by these fronts
best_of_all : (none first best : Division) (all : List (List ℕ)) (counts : List ℕ) → none ≡ no_classes → first ≡ behind none (one_class counts) → best ≡ best_among first none counts all → best ≡ fold better (one_class counts) (map (λ front. divided_by counts (sizes_of front (length counts))) all)
best_of_all none first best all counts e f g =
    let start : first ≡ one_class counts = f ∙ (ap (λ p. behind p (one_class counts)) e ∙ behind_none (one_class counts)) in
    g ∙ (ap₂ (λ d p. best_among d p counts all) start e ∙ behind_none_all counts all (one_class counts))

-- and finds the best division where the fronts are all
pub finds_best : (none first best : Division) (n : ℕ) (counts : List ℕ) → none ≡ no_classes → first ≡ behind none (one_class counts) → best ≡ best_among first none counts (fronts 3 1 n) → n ≡ length counts → 0 < length counts → best ≡ best_division counts
unfolding candidates
finds_best none first best n [] e f g h some = absurd (omega arith)
finds_best none first best n (c ∷ counts) e f g h some =
    best_of_all none first best (fronts 3 1 (length (c ∷ counts))) (c ∷ counts) e f (g ∙ ap (λ m. best_among first none (c ∷ counts) (fronts 3 1 m)) h)
