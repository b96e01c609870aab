-- Parts added to the group of a key, among the entries of a hash table.
use Rattle.std.proofs.Common.{◌≡◌, ◌≤◌, ◌<◌, ◌+◌, ℕ, zero, suc, Bool, true, false, List, [], ◌∷◌, length, map, max, fold, slice_get, slice_index_or, position, Some, None, is_some, unwrap_or, refl, sym, ap, subst, ◌∙◌, true≢false, nat_lt, arith}
use Rattle.std.specs.Map.{keys_of, values_of, lookup}
use Rattle.std.proofs.lemmas.Bool.{ltb-true, ltb-false}
use Rattle.std.proofs.lemmas.List.Sums.{sum_by-cons}
use Rattle.indexmap.specs.IndexMap.{set_value_at, insert_entry}
use Rattle.indexmap.proofs.MapLemmas.{Found-position, Missing-position, insert_entry-first}
use Rattle.blink_lists.specs.Groups.{IsSame}
use Rattle.blink_lists.specs.Lists.{numbers_from}
use Rattle.blink_lists.specs.declared.limits.TheConstants.{MOST_ROWS}
use Rattle.blink_lists.proofs.GroupLemmas.{both}
use Rattle.late_decode.specs.declared.plan.Measure.{Measure}
use Rattle.late_decode.specs.declared.plan.Part.{Part}
use Rattle.late_decode.specs.Bounds.{are_parts, are_groups, counted_at, combinations_in}
use Rattle.late_decode.specs.BoundLaws.{CodedPartsWithin, CountsBounded}
use Rattle.late_decode.specs.Groups.{Grouped, added}
use Rattle.late_decode.specs.Parts.{no_part, merged_parts, no_parts}
use Rattle.late_decode.specs.PartSteps.{AreFew}
use Rattle.late_decode.proofs.BoundLemmas.{parts_of}

none-some : {A : Type 0} {x : A} → None ≡ Some x → ⊥
none-some e = true≢false (sym (ap is_some e))

some-one : {A : Type 0} {x y : A} → Some x ≡ Some y → x ≡ y
some-one {A} {x} e = ap (λ r. unwrap_or r x) e

module _ {K : Type 0} (eq : K → K → Bool) (s : IsSame eq) (measures : List Measure) (key : K) (parts : List Part) where
  -- a key that is there
  found : (es : Grouped K) (own : List Part) → lookup (eq key) es ≡ Some own → added eq measures key parts es ≡ insert_entry eq es key (merged_parts measures own parts)
  found [] own h = absurd (none-some h)
  found (e ∷ es) own h = by (eq key e.0) refl h (found es own)
    where
      by : (b : Bool) → eq key e.0 ≡ b → lookup (eq key) (e ∷ es) ≡ Some own → (lookup (eq key) es ≡ Some own → added eq measures key parts es ≡ insert_entry eq es key (merged_parts measures own parts))
          → added eq measures key parts (e ∷ es) ≡ insert_entry eq (e ∷ es) key (merged_parts measures own parts)
      by true k h rest = let one : e.1 ≡ own = some-one (rw k at h) in rw (added, insert_entry, s.back e.0 key, k, one) refl
      by false k h rest = rw (added, insert_entry, s.back e.0 key, k) (ap (λ l. e ∷ l) (rest (rw k at h)))

  -- and a new one
  absent : (es : Grouped K) → lookup (eq key) es ≡ None → added eq measures key parts es ≡ insert_entry eq es key (merged_parts measures (no_parts measures) parts)
  absent [] h = refl
  absent (e ∷ es) h = by (eq key e.0) refl h (absent es)
    where
      by : (b : Bool) → eq key e.0 ≡ b → lookup (eq key) (e ∷ es) ≡ None → (lookup (eq key) es ≡ None → added eq measures key parts es ≡ insert_entry eq es key (merged_parts measures (no_parts measures) parts))
          → added eq measures key parts (e ∷ es) ≡ insert_entry eq (e ∷ es) key (merged_parts measures (no_parts measures) parts)
      by true k h rest = absurd (none-some (sym (rw k at h)))
      by false k h rest = rw (added, insert_entry, s.back e.0 key, k) (ap (λ l. e ∷ l) (rest (rw k at h)))

  pub written : (es : Grouped K) (i : ℕ) (own : List Part) → position (eq key) (keys_of es) ≡ Some i → slice_get (values_of es) i ≡ Some own
      → set_value_at es i (merged_parts measures own parts) ≡ added eq measures key parts es
  written es i own at here =
      let place = Found-position (eq key) es i at in
      sym (insert_entry-first eq key (merged_parts measures own parts) es i place.first) ∙ sym (found es own (place.value ∙ here))

  pub inserted : (es : Grouped K) → position (eq key) (keys_of es) ≡ None → insert_entry eq es key (merged_parts measures (no_parts measures) parts) ≡ added eq measures key parts es
  inserted es at = sym (absent es (Missing-position (eq key) es at).value)

-- the greatest of some numbers is no less than where the search began, nor than any
fold_starts : (acc : ℕ) (ns : List ℕ) → acc ≤ fold max acc ns
fold_starts acc [] = omega arith
fold_starts acc (n ∷ ns) = let rest = fold_starts (max acc n) ns in omega (arith, rest)

fold_numbers : (f : ℕ → ℕ) (acc from count j : ℕ) → j < count → f (from + j) ≤ fold max acc (map f (numbers_from from count))
fold_numbers f acc from zero j lt = absurd (omega (arith, lt))
fold_numbers f acc from (suc count) zero lt =
    let starts = fold_starts (max acc (f from)) (map f (numbers_from (from + 1) count)) in
    let e : f (from + 0) ≡ f from = ap f (omega arith) in
    omega (arith, starts, e)
fold_numbers f acc from (suc count) (suc j) lt =
    let rest = fold_numbers f (max acc (f from)) (from + 1) count j (omega (arith, lt)) in
    let e : f (from + suc j) ≡ f (from + 1 + j) = ap f (omega arith) in
    omega (arith, rest, e)

pub fold_parts : (acc : ℕ) (parts : List Part) (k : ℕ) → (slice_index_or parts k no_part).count ≤ fold max acc (map (λ part. part.count) parts)
fold_parts acc [] k = omega arith
fold_parts acc (p ∷ ps) zero = let starts = fold_starts (max acc p.count) (map (λ part. part.count) ps) in omega (arith, starts)
fold_parts acc (p ∷ ps) (suc k) = fold_parts (max acc p.count) ps k

none_beyond : (parts : List Part) (k : ℕ) → length parts ≤ k → (slice_index_or parts k no_part).count ≡ 0
none_beyond [] k le = refl
none_beyond (p ∷ ps) zero le = absurd (omega (arith, le))
none_beyond (p ∷ ps) (suc k) le = none_beyond ps k (omega (arith, le))

pub none_counted : (measures : List Measure) (k : ℕ) → (slice_index_or (no_parts measures) k no_part).count ≡ 0
none_counted [] k = refl
none_counted (m ∷ ms) zero = refl
none_counted (m ∷ ms) (suc k) = none_counted ms k

module _ {K : Type 0} where
  count_within : (es : Grouped K) (i k : ℕ) (own : List Part) → slice_get (values_of es) i ≡ Some own → (slice_index_or own k no_part).count ≤ counted_at es k
  count_within [] i k own h = absurd (none-some h)
  count_within (e ∷ es) zero k own h =
      let one : e.1 ≡ own = some-one h in
      let same : (slice_index_or e.1 k no_part).count ≡ (slice_index_or own k no_part).count = ap (λ l. (slice_index_or l k no_part).count) one in
      rw (sum_by-cons (λ (g : K × List Part). (slice_index_or g.1 k no_part).count) e es) (omega (arith, same))
  count_within (e ∷ es) (suc i) k own h =
      let rest = count_within es i k own h in
      rw (sum_by-cons (λ (g : K × List Part). (slice_index_or g.1 k no_part).count) e es) (omega (arith, rest))

  -- the parts of a group are as those of all groups
  pub group_parts : (measures : List Measure) (es : Grouped K) (i : ℕ) (own : List Part) → are_groups measures es ≡ true → slice_get (values_of es) i ≡ Some own → are_parts measures own ≡ true
  group_parts measures [] i own h e = absurd (none-some e)
  group_parts measures (g ∷ es) zero own h e = let one : g.1 ≡ own = some-one e in subst (λ l. are_parts measures l ≡ true) one (both (are_parts measures g.1) (are_groups measures es) h).0
  group_parts measures (g ∷ es) (suc i) own h e = group_parts measures es i own (both (are_parts measures g.1) (are_groups measures es) h).1 e

  -- further parts of a measure count no more than the groups with them
  pub more_within : (measures : List Measure) (es : Grouped K) (key : K) (parts : List Part) (k : ℕ) → k < length measures → combinations_in measures ((key, parts) ∷ es) ≤ MOST_ROWS
      → (slice_index_or parts k no_part).count + counted_at es k ≤ MOST_ROWS
  more_within measures es key parts k lt few =
      let all = fold_numbers (counted_at ((key, parts) ∷ es)) 0 0 (length measures) k lt in
      let same : counted_at ((key, parts) ∷ es) (0 + k) ≡ counted_at ((key, parts) ∷ es) k = ap (counted_at ((key, parts) ∷ es)) (omega arith) in
      let split = sum_by-cons (λ (g : K × List Part). (slice_index_or g.1 k no_part).count) (key, parts) es in
      omega (arith, all, same, split, few)

  -- a group and further parts count no more than all
  pub group_few : (measures : List Measure) (es : Grouped K) (i : ℕ) (own : List Part) (key : K) (parts : List Part) → are_groups measures es ≡ true → slice_get (values_of es) i ≡ Some own
      → are_parts measures parts ≡ true → combinations_in measures ((key, parts) ∷ es) ≤ MOST_ROWS → AreFew own parts
  group_few measures es i own key parts h e good few k = by (nat_lt k (length measures)) refl
    where
      by : (b : Bool) → nat_lt k (length measures) ≡ b → (slice_index_or own k no_part).count + (slice_index_or parts k no_part).count ≤ MOST_ROWS
      by true t =
          let here = count_within es i k own e in
          let more = more_within measures es key parts k (ltb-true k (length measures) t) few in
          omega (arith, here, more)
      by false t =
          let beyond = ltb-false k (length measures) t in
          let long = (parts_of measures own (group_parts measures es i own h e)).0 in
          let none = none_beyond own k (omega (arith, long, beyond)) in
          let many = (parts_of measures parts good).0 in
          let no_more = none_beyond parts k (omega (arith, many, beyond)) in
          omega (arith, none, no_more)

-- further parts alone, too
pub new_few : {K : Type 0} (measures : List Measure) (es : Grouped K) (key : K) (parts : List Part) → are_parts measures parts ≡ true → combinations_in measures ((key, parts) ∷ es) ≤ MOST_ROWS
    → AreFew (no_parts measures) parts
new_few measures es key parts good few k = by (nat_lt k (length measures)) refl
  where
    by : (b : Bool) → nat_lt k (length measures) ≡ b → (slice_index_or (no_parts measures) k no_part).count + (slice_index_or parts k no_part).count ≤ MOST_ROWS
    by true t =
        let none = none_counted measures k in
        let more = more_within measures es key parts k (ltb-true k (length measures) t) few in
        omega (arith, none, more)
    by false t =
        let none = none_counted measures k in
        let many = (parts_of measures parts good).0 in
        let no_more = none_beyond parts k (omega (arith, many, ltb-false k (length measures) t)) in
        omega (arith, none, no_more)

pub coded_parts_within : CodedPartsWithin
coded_parts_within measures groups at own good here = (group_parts measures groups at own good here, λ k. by k (nat_lt k (length measures)) refl)
  where
    by : (k : ℕ) (b : Bool) → nat_lt k (length measures) ≡ b → (slice_index_or own k no_part).count ≤ combinations_in measures groups
    by k true t =
        let some = count_within groups at k own here in
        let all = fold_numbers (counted_at groups) 0 0 (length measures) k (ltb-true k (length measures) t) in
        let same : counted_at groups (0 + k) ≡ counted_at groups k = ap (counted_at groups) (omega arith) in
        omega (arith, some, all, same)
    by k false t =
        let long = (parts_of measures own (group_parts measures groups at own good here)).0 in
        let none = none_beyond own k (omega (arith, long, ltb-false k (length measures) t)) in
        omega (arith, none)

-- no greatest number exceeds what none of them exceeds
fold_most : (f : ℕ → ℕ) (most acc from count : ℕ) → acc ≤ most → ((k : ℕ) → k < count → f (from + k) ≤ most) → fold max acc (map f (numbers_from from count)) ≤ most
fold_most f most acc from zero le each = le
fold_most f most acc from (suc count) le each =
    let here = each 0 (omega arith) in
    let same : f (from + 0) ≡ f from = ap f (omega arith) in
    fold_most f most (max acc (f from)) (from + 1) count (omega (arith, le, here, same))
    (λ k lt. let there = each (suc k) (omega (arith, lt)) in let moved : f (from + suc k) ≡ f (from + 1 + k) = ap f (omega arith) in omega (arith, there, moved))

pub counts_bounded : CountsBounded
counts_bounded counted measures = (
  λ k lt. let all = fold_numbers counted 0 0 measures k lt in let same : counted (0 + k) ≡ counted k = ap counted (omega arith) in omega (arith, all, same),
  λ most each. fold_most counted most 0 0 measures (omega arith) (λ k lt. let here = each k lt in let same : counted (0 + k) ≡ counted k = ap counted (omega arith) in omega (arith, here, same)),
)
