-- Laws of groups that stay within their bounds. Source: this project's own.
use Rattle.std.specs.Prelude.{◌≡◌, ◌<◌, ◌≤◌, ◌+◌, ◌^◌, max, fold, ℕ, Bool, true, List, [], ◌∷◌, map, nat_abs, Some, slice_get, slice_index_or}
use Rattle.std.specs.List.{list_all}
use Rattle.std.specs.Map.{values_of}
use Rattle.blink_lists.specs.Lists.{are_distinct, numbers_from}
use Rattle.blink_base.specs.Values.{Row, same_row, number_in}
use Rattle.late_decode.specs.declared.plan.Measure.{Measure}
use Rattle.late_decode.specs.declared.plan.Part.{Part}
use Rattle.late_decode.specs.declared.plan.Pick.{Pick}
use Rattle.late_decode.specs.declared.plan.Slot.{Slot}
use Rattle.late_decode.specs.Parts.{Picked, no_part, parts_over}
use Rattle.late_decode.specs.Groups.{Grouped, added}
use Rattle.late_decode.specs.Bounds.{are_parts, are_groups, combinations_in, combinations_of, counted_at, slot_within, slots_within}

-- The law that groups by values with one bounded part a measure stay so where bounded parts are added.
abbrev pub AddedAreGroups : Type 0
AddedAreGroups =
    (measures : List Measure) (key : Row) (parts : List Part) (groups : Grouped Row) → are_parts measures parts ≡ true → are_groups measures groups ≡ true
    → are_groups measures (added same_row measures key parts groups) ≡ true

-- The law that groups by codes stay so, however tuples of codes are compared.
abbrev pub AddedAreCoded : Type 0
AddedAreCoded =
    (same : List ℕ → List ℕ → Bool) (measures : List Measure) (key : List ℕ) (parts : List Part) (groups : Grouped (List ℕ)) → are_parts measures parts ≡ true
    → are_groups measures groups ≡ true → are_groups measures (added same measures key parts groups) ≡ true

-- The law that groups keep each key once where parts are added.
abbrev pub AddedAreDistinct : Type 0
AddedAreDistinct =
    (measures : List Measure) (key : Row) (parts : List Part) (groups : Grouped Row) → are_distinct same_row (map (λ group. group.0) groups) ≡ true
    → are_distinct same_row (map (λ group. group.0) (added same_row measures key parts groups)) ≡ true

-- The law that slots in range of groups and of a key stay so where parts are added at this key.
abbrev pub SlotsStayWithin : Type 0
SlotsStayWithin =
    (measures : List Measure) (slots : List Slot) (key : Row) (parts : List Part) (groups : Grouped Row) → list_all (slot_within measures key) slots ≡ true
    → slots_within measures slots groups ≡ true → slots_within measures slots (added same_row measures key parts groups) ≡ true

-- The law that groups by values have no more combinations than before and those of the parts that are added.
abbrev pub CombinationsAdded : Type 0
CombinationsAdded =
    (measures : List Measure) (key : Row) (parts : List Part) (groups : Grouped Row)
    → combinations_in measures (added same_row measures key parts groups) ≤ combinations_in measures groups + combinations_of parts

-- The law that the same holds of groups by codes, however tuples of codes are compared.
abbrev pub CodedCombinationsAdded : Type 0
CodedCombinationsAdded =
    (same : List ℕ → List ℕ → Bool) (measures : List Measure) (key : List ℕ) (parts : List Part) (groups : Grouped (List ℕ))
    → combinations_in measures (added same measures key parts groups) ≤ combinations_in measures groups + combinations_of parts

-- The law that parts beside groups make no more combinations than both have.
abbrev pub CombinationsTogether : Type 0
CombinationsTogether =
    (measures : List Measure) (key : Row) (parts : List Part) (groups : Grouped Row)
    → combinations_in measures ((key, parts) ∷ groups) ≤ combinations_in measures groups + combinations_of parts

-- The law that each measure counts no more than before and in the parts that are added.
abbrev pub CountsAdded : Type 0
CountsAdded =
    (measures : List Measure) (key : Row) (parts : List Part) (groups : Grouped Row) (k : ℕ)
    → counted_at (added same_row measures key parts groups) k ≤ counted_at groups k + (slice_index_or parts k no_part).count

-- The law that the parts of a group by codes are as those of all groups, and count no more than they do.
abbrev pub CodedPartsWithin : Type 0
CodedPartsWithin =
    (measures : List Measure) (groups : Grouped (List ℕ)) (at : ℕ) (own : List Part) → are_groups measures groups ≡ true → slice_get (values_of groups) at ≡ Some own
    → (are_parts measures own ≡ true) × ((k : ℕ) → (slice_index_or own k no_part).count ≤ combinations_in measures groups)

-- The law that the greatest of some counts is no less than each, and no more than what none exceeds.
abbrev pub CountsBounded : Type 0
CountsBounded =
    (counted : ℕ → ℕ) (measures : ℕ)
    → ((k : ℕ) → k < measures → counted k ≤ fold max 0 (map counted (numbers_from 0 measures)))
    × ((most : ℕ) → ((k : ℕ) → k < measures → counted k ≤ most) → fold max 0 (map counted (numbers_from 0 measures)) ≤ most)

-- The law that the parts of one row are bounded, where its numbers have at most fifteen digits.
abbrev pub RowsAreParts : Type 0
RowsAreParts = (measures : List Measure) (at : Picked) → ((p : Pick) → nat_abs (number_in (at p)) ≤ 10 ^ 15) → are_parts measures (parts_over measures (at ∷ [])) ≡ true
