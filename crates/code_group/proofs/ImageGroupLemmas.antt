-- Groups of selected rows, cell by cell and then rest, are those of these rows in some order.
use Rattle.std.proofs.Common.{◌≡◌, ◌==◌, ℕ, true, List, [], ◌∷◌, ◌++◌, map, length, nat_lt, sym, ap, ◌∙◌, append_assoc}
use Rattle.std.specs.List.{list_all, flat_map}
use Rattle.std.proofs.lemmas.Bool.{eqb-true}
use Rattle.std.proofs.lemmas.List.{append-nil}
use Rattle.blink_base.specs.declared.value.Value.{Value}
use Rattle.blink_base.specs.Values.{Row}
use Rattle.blink_lists.specs.Groups.{with_key}
use Rattle.blink_lists.specs.Lists.{once_each}
use Rattle.blink_lists.specs.Rearrangement.{Rearranged}
use Rattle.blink_lists.specs.Rearrangement.Rearranged.{followed}
use Rattle.blink_lists.proofs.GroupLemmas.{both, groups_rearrange}
use Rattle.blink_lists.proofs.RearrangementLemmas.{itself, in_front, behind, map-rearranged}
use Rattle.cell_layout.specs.Image.{TableImage, CellImage, decoded_row}
use Rattle.cell_layout.specs.Valid.{are_codes}
use Rattle.code_join.specs.Keys.{Keyed}
use Rattle.code_join.specs.KeyLaws.{EntriesByPlace, PlacesByCode}
use Rattle.late_decode.specs.declared.plan.GroupPlan.{GroupPlan}
use Rattle.late_decode.specs.declared.plan.Pick.{Pick}
use Rattle.late_decode.specs.Laws.{CodedRowsGroup, RowsGroup, SpilledGroup}
use Rattle.late_decode.specs.PlannedRows.{key_of, groups_by_plan}
use Rattle.code_group.specs.Entries.{picked_beside, has_keys, key_of_entries}
use Rattle.code_group.specs.GroupLaws.{is_joined, are_joined, selected_in, ImageGroups}
use Rattle.code_group.specs.GroupRows.{tuple_of, picked_of, cell_rows_added, spilled, cells_added, rest_added, image_groups}
use Rattle.code_group.specs.Tuples.{same_tuple}
use Rattle.code_group.proofs.EntryLemmas.{key-is}
use Rattle.code_group.proofs.TupleLemmas.{tells_tuples}

-- lists with the same elements in front of lists with the same elements
both-rearranged : {X : Type 0} {xs ys us vs : List X} → Rearranged xs ys → Rearranged us vs → Rearranged (xs ++ us) (ys ++ vs)
both-rearranged {X} {xs} {ys} {us} {vs} r s = followed (behind us r) (in_front ys s)

module _ (by_place : EntriesByPlace) (by_code : PlacesByCode) (coded_group : CodedRowsGroup) (rows_group : RowsGroup) (spilled_group : SpilledGroup)
    (image : TableImage) (plan : GroupPlan) (keys : List Keyed) (many : length keys ≡ length plan.ties) (within : list_all (λ k. nat_lt k (length image.columns)) plan.ties ≡ true) where
  abbrev picked : Row → Pick → Value
  picked = picked_beside plan.ties keys

  -- the rows of a cell, in the order of its tuples
  abbrev in_groups : CellImage × List (List ℕ) → List Row
  in_groups cell = map (decoded_row image.columns cell.0.classes) (flat_map (with_key same_tuple (tuple_of image cell.0 plan keys) cell.1) (once_each same_tuple (map (tuple_of image cell.0 plan keys) cell.1)))

  one-cell : (cell : CellImage × List (List ℕ)) (rows : List Row) → are_joined image plan keys cell ≡ true
      → spilled image cell.0 plan keys (cell_rows_added image cell.0 plan keys cell.1 []) (groups_by_plan plan picked rows) ≡ groups_by_plan plan picked (rows ++ in_groups cell)
  one-cell cell rows h =
      let b = both (length cell.0.classes == length image.columns) (list_all (is_joined image plan keys cell.0) cell.1) h in
      let full : length cell.0.classes ≡ length image.columns = eqb-true (length cell.0.classes) (length image.columns) b.0 in
      ap (λ gs. spilled image cell.0 plan keys gs (groups_by_plan plan picked rows)) (coded_group same_tuple tells_tuples plan.measures (tuple_of image cell.0 plan keys) (picked_of image cell.0 plan keys) [] cell.1)
      ∙ spilled_group plan.measures (λ row. key_of plan.keys (picked row)) picked (tuple_of image cell.0 plan keys) (decoded_row image.columns cell.0.classes)
      (key_of_entries image.columns cell.0.classes keys plan.keys) same_tuple tells_tuples (is_joined image plan keys cell.0)
      (λ codes e.
      let g = both (are_codes image.columns cell.0.classes codes) (has_keys plan.ties keys (decoded_row image.columns cell.0.classes codes)) e in
      key-is by_place by_code image.columns cell.0.classes full codes g.0 plan.ties keys many within g.1 plan.keys) rows cell.1 b.1

  cells-are : (cells : List (CellImage × List (List ℕ))) (rows : List Row) → list_all (are_joined image plan keys) cells ≡ true
      → cells_added image plan keys cells (groups_by_plan plan picked rows) ≡ groups_by_plan plan picked (rows ++ flat_map in_groups cells)
  cells-are [] rows h = ap (groups_by_plan plan picked) (sym (append-nil rows))
  cells-are (cell ∷ cells) rows h =
      let b = both (are_joined image plan keys cell) (list_all (are_joined image plan keys) cells) h in
      ap (cells_added image plan keys cells) (one-cell cell rows b.0)
      ∙ cells-are cells (rows ++ in_groups cell) b.1
      ∙ ap (groups_by_plan plan picked) (append_assoc rows (in_groups cell) (flat_map in_groups cells))

  cells-rearranged : (cells : List (CellImage × List (List ℕ))) → Rearranged (flat_map (selected_in image) cells) (flat_map in_groups cells)
  cells-rearranged [] = itself []
  cells-rearranged (cell ∷ cells) =
      both-rearranged (map-rearranged (decoded_row image.columns cell.0.classes) (groups_rearrange same_tuple tells_tuples (tuple_of image cell.0 plan keys) cell.1)) (cells-rearranged cells)

  groups-are : (cells : List (CellImage × List (List ℕ))) (rest : List Row) → list_all (are_joined image plan keys) cells ≡ true
      → (taken : List Row) × Rearranged (flat_map (selected_in image) cells ++ rest) taken × (image_groups image plan keys cells rest ≡ groups_by_plan plan picked taken)
  groups-are cells rest h =
      let front = flat_map in_groups cells in (
        front ++ rest,
        behind rest (cells-rearranged cells),
        ap (rest_added plan keys rest) (cells-are cells [] h)
            ∙ rows_group plan.measures (λ row. key_of plan.keys (picked row)) picked front rest,
      )

pub image-groups : EntriesByPlace → PlacesByCode → CodedRowsGroup → RowsGroup → SpilledGroup → ImageGroups
image-groups by_place by_code coded rows spilled image plan keys cells rest many within h = groups-are by_place by_code coded rows spilled image plan keys many within cells rest h
