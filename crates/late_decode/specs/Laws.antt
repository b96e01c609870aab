-- Laws of groups that are merged. Source: this project's own.
use Rattle.std.specs.Prelude.{◌≡◌, ℕ, Bool, true, List, ◌++◌, map}
use Rattle.std.specs.List.{list_all, flat_map}
use Rattle.blink_base.specs.Values.{Row, same_row}
use Rattle.blink_lists.specs.Lists.{once_each}
use Rattle.blink_lists.specs.Groups.{IsSame, with_key}
use Rattle.late_decode.specs.declared.plan.Measure.{Measure}
use Rattle.late_decode.specs.Parts.{Picked, merged_part, part_over}
use Rattle.late_decode.specs.Groups.{rows_added, groups_added, grouped}

-- The law that the part of some rows and further rows is that of both, merged.
abbrev pub PartsMerge : Type 0
PartsMerge = (measure : Measure) (xs ys : List Picked) → part_over measure (xs ++ ys) ≡ merged_part measure (part_over measure xs) (part_over measure ys)

-- The law that rows added one by one to the groups of others give the groups of all.
abbrev pub RowsGroup : Type 0
RowsGroup = (measures : List Measure) (key : Row → Row) (picked : Row → Picked) (xs ys : List Row)
    → rows_added same_row measures key picked ys (grouped same_row measures key picked xs) ≡ grouped same_row measures key picked (xs ++ ys)

-- The law that the same holds of rows of codes, by tuples of codes.
abbrev pub CodedRowsGroup : Type 0
CodedRowsGroup =
    (same : List ℕ → List ℕ → Bool) → IsSame same → (measures : List Measure) (code : List ℕ → List ℕ) (picked : List ℕ → Picked) (xs ys : List (List ℕ))
    → rows_added same measures code picked ys (grouped same measures code picked xs) ≡ grouped same measures code picked (xs ++ ys)

-- The law that groups by codes, added at the keys that the codes stand for, give the groups of all rows, where codes of equal keys may differ.
abbrev pub SpilledGroup : Type 0
SpilledGroup =
    (measures : List Measure) (key : Row → Row) (picked : Row → Picked) (code : List ℕ → List ℕ) (row_of : List ℕ → Row) (decoded : List ℕ → Row) (same_codes : List ℕ → List ℕ → Bool)
    → IsSame same_codes → (good : List ℕ → Bool) → ((y : List ℕ) → good y ≡ true → key (row_of y) ≡ decoded (code y)) → (xs : List Row) (ys : List (List ℕ)) → list_all good ys ≡ true
    → groups_added same_row measures decoded (grouped same_codes measures code (λ y. picked (row_of y)) ys) (grouped same_row measures key picked xs)
    ≡ grouped same_row measures key picked (xs ++ map row_of (flat_map (with_key same_codes code ys) (once_each same_codes (map code ys))))
