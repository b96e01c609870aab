-- The law of groups over an image. Source: this project's own.
use Rattle.std.specs.Prelude.{◌≡◌, ℕ, Bool, true, ◌&&◌, ◌==◌, List, ◌++◌, map, length, nat_lt}
use Rattle.std.specs.List.{list_all, flat_map}
use Rattle.blink_base.specs.Values.{Row}
use Rattle.blink_lists.specs.Rearrangement.{Rearranged}
use Rattle.cell_layout.specs.Image.{TableImage, CellImage, decoded_row}
use Rattle.cell_layout.specs.Valid.{are_codes}
use Rattle.code_join.specs.Keys.{Keyed}
use Rattle.late_decode.specs.declared.plan.GroupPlan.{GroupPlan}
use Rattle.late_decode.specs.PlannedRows.{groups_by_plan}
use Rattle.code_group.specs.Entries.{picked_beside, has_keys}
use Rattle.code_group.specs.GroupRows.{image_groups}

-- whether the codes of a row are in range, and its tied values are keys
abbrev pub is_joined : TableImage → GroupPlan → List Keyed → CellImage → List ℕ → Bool
is_joined image plan keys cell codes = are_codes image.columns cell.classes codes && has_keys plan.ties keys (decoded_row image.columns cell.classes codes)

-- whether a cell has a class number per column, and all these rows of it are joined
abbrev pub are_joined : TableImage → GroupPlan → List Keyed → CellImage × List (List ℕ) → Bool
are_joined image plan keys cell = length cell.0.classes == length image.columns && list_all (is_joined image plan keys cell.0) cell.1

-- the rows that selected rows of a cell stand for
abbrev pub selected_in : TableImage → CellImage × List (List ℕ) → List Row
selected_in image cell = map (decoded_row image.columns cell.0.classes) cell.1

-- The law that the groups of selected rows, cell by cell and then rest, are those of these rows in some order.
abbrev pub ImageGroups : Type 0
ImageGroups =
    (image : TableImage) (plan : GroupPlan) (keys : List Keyed) (cells : List (CellImage × List (List ℕ))) (rest : List Row)
    → length keys ≡ length plan.ties → list_all (λ k. nat_lt k (length image.columns)) plan.ties ≡ true → list_all (are_joined image plan keys) cells ≡ true
    → (taken : List Row) × Rearranged (flat_map (selected_in image) cells ++ rest) taken × (image_groups image plan keys cells rest ≡ groups_by_plan plan (picked_beside plan.ties keys) taken)
