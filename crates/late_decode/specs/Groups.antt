-- Groups by key, each with one part per measure. Source: ISO/IEC 9075 (GROUP BY clause); the order of the keys is this project's own.
use Rattle.std.specs.Prelude.{Bool, true, false, List, [], ◌∷◌, map}
use Rattle.blink_lists.specs.Lists.{once_each}
use Rattle.blink_lists.specs.Groups.{with_key}
use Rattle.late_decode.specs.declared.plan.Measure.{Measure}
use Rattle.late_decode.specs.declared.plan.Part.{Part}
use Rattle.late_decode.specs.Parts.{Picked, merged_parts, no_parts, parts_over}

-- groups by key, in the order in which their keys first came
abbrev pub Grouped : Type 0 → Type 0
Grouped K = List (K × List Part)

module _ {K : Type 0} (eq : K → K → Bool) (measures : List Measure) where
  -- parts added to the group of their key; a new key goes last
  abbrev pub added : K → List Part → Grouped K → Grouped K
  added key parts [] = (key, merged_parts measures (no_parts measures) parts) ∷ []
  added key parts (group ∷ groups) = elim (eq group.0 key) [ true ↦ (group.0, merged_parts measures group.1 parts) ∷ groups | false ↦ group ∷ added key parts groups ]

  -- the parts of rows added one row after another, by the key and the picked values of each
  abbrev pub rows_added : {X : Type 0} → (X → K) → (X → Picked) → List X → Grouped K → Grouped K
  rows_added key picked [] groups = groups
  rows_added key picked (row ∷ rows) groups = rows_added key picked rows (added (key row) (parts_over measures (picked row ∷ [])) groups)

  -- groups of other keys, added one after another, each at the key that it stands for
  abbrev pub groups_added : {C : Type 0} → (C → K) → Grouped C → Grouped K → Grouped K
  groups_added decoded [] groups = groups
  groups_added decoded (group ∷ more) groups = groups_added decoded more (added (decoded group.0) group.1 groups)

  -- the groups of some rows: each key once, where it first stands, with the parts of the rows that have it
  abbrev pub grouped : {X : Type 0} → (X → K) → (X → Picked) → List X → Grouped K
  grouped key picked rows = map (λ k. (k, parts_over measures (map picked (with_key eq key rows k)))) (once_each eq (map key rows))
