-- What stays of groups where parts are added.
use Rattle.std.proofs.Common.{◌≡◌, ◌≤◌, ◌+◌, ℕ, zero, suc, Bool, true, false, not, ◌||◌, List, [], ◌∷◌, map, max, fold, length, slice_index_or, refl, ap, ◌∙◌, arith}
use Rattle.std.specs.List.{list_all, list_any}
use Rattle.std.proofs.lemmas.List.Sums.{sum_by-cons}
use Rattle.blink_lists.specs.Lists.{are_distinct, numbers_from}
use Rattle.blink_lists.proofs.GroupLemmas.{both, and_both}
use Rattle.blink_base.specs.Values.{Row, same_row}
use Rattle.late_decode.specs.declared.plan.Measure.{Measure}
use Rattle.late_decode.specs.declared.plan.Part.{Part}
use Rattle.late_decode.specs.declared.plan.Slot.{Slot}
use Rattle.late_decode.specs.Bounds.{counted_at, combinations_in, combinations_of, slot_within, measure_within}
use Rattle.late_decode.specs.BoundLaws.{AddedAreDistinct, SlotsStayWithin, CombinationsAdded, CodedCombinationsAdded, CombinationsTogether, CountsAdded}
use Rattle.late_decode.specs.Groups.{Grouped, added}
use Rattle.late_decode.specs.Parts.{no_part, merged_parts, no_parts}
use Rattle.late_decode.proofs.EntryLemmas.{fold_parts, none_counted}

-- the counts of merged parts
merged_counts : (ms : List Measure) (xs ys : List Part) (k : ℕ) → (slice_index_or (merged_parts ms xs ys) k no_part).count ≤ (slice_index_or xs k no_part).count + (slice_index_or ys k no_part).count
merged_counts [] xs ys k = omega arith
merged_counts (m ∷ ms) [] ys k = omega arith
merged_counts (m ∷ ms) (x ∷ xs) [] k = omega arith
merged_counts (m ∷ ms) (x ∷ xs) (y ∷ ys) zero = omega arith
merged_counts (m ∷ ms) (x ∷ xs) (y ∷ ys) (suc k) = merged_counts ms xs ys k

-- the greatest of some numbers that are each at most so much greater
fold_more : (f g : ℕ → ℕ) (p acc bcc : ℕ) → acc ≤ bcc + p → ((k : ℕ) → f k ≤ g k + p) → (from count : ℕ) → fold max acc (map f (numbers_from from count)) ≤ fold max bcc (map g (numbers_from from count)) + p
fold_more f g p acc bcc le each from zero = le
fold_more f g p acc bcc le each from (suc count) =
    let here = each from in
    fold_more f g p (max acc (f from)) (max bcc (g from)) (omega (arith, le, here)) each (from + 1) count

module _ {K : Type 0} (eq : K → K → Bool) (measures : List Measure) (key : K) (parts : List Part) where
  abbrev count_of : ℕ → K × List Part → ℕ
  count_of k group = (slice_index_or group.1 k no_part).count

  counted_added : (groups : Grouped K) (k : ℕ) → counted_at (added eq measures key parts groups) k ≤ counted_at groups k + (slice_index_or parts k no_part).count
  counted_added [] k =
      let merged = merged_counts measures (no_parts measures) parts k in
      let none = none_counted measures k in
      rw (sum_by-cons (count_of k) (key, merged_parts measures (no_parts measures) parts) []) (omega (arith, merged, none))
  counted_added (group ∷ groups) k = by (eq group.0 key) refl (counted_added groups k)
    where
      by : (b : Bool) → eq group.0 key ≡ b → counted_at (added eq measures key parts groups) k ≤ counted_at groups k + (slice_index_or parts k no_part).count
          → counted_at (added eq measures key parts (group ∷ groups)) k ≤ counted_at (group ∷ groups) k + (slice_index_or parts k no_part).count
      by true e rest =
          let merged = merged_counts measures group.1 parts k in
          rw (added, e, sum_by-cons (count_of k) (group.0, merged_parts measures group.1 parts) groups, sum_by-cons (count_of k) group groups) (omega (arith, merged))
      by false e rest = rw (added, e, sum_by-cons (count_of k) group (added eq measures key parts groups), sum_by-cons (count_of k) group groups) (omega (arith, rest))

  combinations_more : (groups : Grouped K) → combinations_in measures (added eq measures key parts groups) ≤ combinations_in measures groups + combinations_of parts
  combinations_more groups =
      fold_more (counted_at (added eq measures key parts groups)) (counted_at groups) (combinations_of parts) 0 0 (omega arith)
      (λ k. let here = counted_added groups k in let within = fold_parts 0 parts k in omega (arith, here, within)) 0 (length measures)

  combinations_with : (groups : Grouped K) → combinations_in measures ((key, parts) ∷ groups) ≤ combinations_in measures groups + combinations_of parts
  combinations_with groups =
      fold_more (counted_at ((key, parts) ∷ groups)) (counted_at groups) (combinations_of parts) 0 0 (omega arith)
      (λ k. let within = fold_parts 0 parts k in rw (sum_by-cons (count_of k) (key, parts) groups) (omega (arith, within))) 0 (length measures)

  -- another key is there exactly where it was
  any_added : (a : K) → eq a key ≡ false → (groups : Grouped K) → list_any (eq a) (map (λ group. group.0) (added eq measures key parts groups)) ≡ list_any (eq a) (map (λ group. group.0) groups)
  any_added a n [] = rw n refl
  any_added a n (group ∷ groups) = by (eq group.0 key) refl (any_added a n groups)
    where
      by : (b : Bool) → eq group.0 key ≡ b → list_any (eq a) (map (λ g. g.0) (added eq measures key parts groups)) ≡ list_any (eq a) (map (λ g. g.0) groups)
          → list_any (eq a) (map (λ g. g.0) (added eq measures key parts (group ∷ groups))) ≡ list_any (eq a) (map (λ g. g.0) (group ∷ groups))
      by true e rest = rw (added, e) refl
      by false e rest = rw (added, e) (ap (λ b. eq a group.0 || b) rest)

  distinct_added : (groups : Grouped K) → are_distinct eq (map (λ group. group.0) groups) ≡ true → are_distinct eq (map (λ group. group.0) (added eq measures key parts groups)) ≡ true
  distinct_added [] h = refl
  distinct_added (group ∷ groups) h =
      let b = both (not (list_any (eq group.0) (map (λ g. g.0) groups))) (are_distinct eq (map (λ g. g.0) groups)) h in
      by (eq group.0 key) refl h b.0 (distinct_added groups b.1)
    where
      by : (c : Bool) → eq group.0 key ≡ c → are_distinct eq (map (λ g. g.0) (group ∷ groups)) ≡ true → not (list_any (eq group.0) (map (λ g. g.0) groups)) ≡ true
          → are_distinct eq (map (λ g. g.0) (added eq measures key parts groups)) ≡ true → are_distinct eq (map (λ g. g.0) (added eq measures key parts (group ∷ groups))) ≡ true
      by true e whole n rest = rw (added, e) whole
      by false e whole n rest =
          rw (added, e) (and_both (not (list_any (eq group.0) (map (λ g. g.0) (added eq measures key parts groups)))) (are_distinct eq (map (λ g. g.0) (added eq measures key parts groups)))
          (ap not (any_added group.0 e groups) ∙ n) rest)

within_added : (measures : List Measure) (slots : List Slot) (key : Row) (parts : List Part) → list_all (slot_within measures key) slots ≡ true → (groups : Grouped Row)
    → list_all (λ (group : Row × List Part). list_all (slot_within measures group.0) slots) groups ≡ true
    → list_all (λ (group : Row × List Part). list_all (slot_within measures group.0) slots) (added same_row measures key parts groups) ≡ true
within_added measures slots key parts w [] h = and_both (list_all (slot_within measures key) slots) true w refl
within_added measures slots key parts w (group ∷ groups) h =
    let b = both (list_all (slot_within measures group.0) slots) (list_all (λ (g : Row × List Part). list_all (slot_within measures g.0) slots) groups) h in
    by (same_row group.0 key) refl h b.0 (within_added measures slots key parts w groups b.1)
  where
    by : (c : Bool) → same_row group.0 key ≡ c → list_all (λ (g : Row × List Part). list_all (slot_within measures g.0) slots) (group ∷ groups) ≡ true → list_all (slot_within measures group.0) slots ≡ true
        → list_all (λ (g : Row × List Part). list_all (slot_within measures g.0) slots) (added same_row measures key parts groups) ≡ true
        → list_all (λ (g : Row × List Part). list_all (slot_within measures g.0) slots) (added same_row measures key parts (group ∷ groups)) ≡ true
    by true e whole first rest = rw (added, e) whole
    by false e whole first rest =
        rw (added, e) (and_both (list_all (slot_within measures group.0) slots) (list_all (λ (g : Row × List Part). list_all (slot_within measures g.0) slots) (added same_row measures key parts groups)) first rest)

pub added_are_distinct : AddedAreDistinct
added_are_distinct measures key parts groups h = distinct_added same_row measures key parts groups h

pub slots_stay_within : SlotsStayWithin
slots_stay_within measures slots key parts groups w h =
    let b = both (list_all (measure_within measures) slots) (list_all (λ (g : Row × List Part). list_all (slot_within measures g.0) slots) groups) h in
    and_both (list_all (measure_within measures) slots) (list_all (λ (g : Row × List Part). list_all (slot_within measures g.0) slots) (added same_row measures key parts groups)) b.0
    (within_added measures slots key parts w groups b.1)

pub combinations_added : CombinationsAdded
combinations_added measures key parts groups = combinations_more same_row measures key parts groups

pub coded_combinations_added : CodedCombinationsAdded
coded_combinations_added same measures key parts groups = combinations_more same measures key parts groups

pub combinations_together : CombinationsTogether
combinations_together measures key parts groups = combinations_with same_row measures key parts groups

pub counts_added : CountsAdded
counts_added measures key parts groups k = counted_added same_row measures key parts groups k
