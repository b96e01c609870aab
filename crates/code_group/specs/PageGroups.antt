-- Rows of a page while they are added to the groups of their cell. Source: this project's own.
use Rattle.std.specs.Prelude.{◌≡◌, ◌<◌, ◌≤◌, ◌+◌, ◌*◌, ℕ, Bool, true, List, [], length, count_by, slice_index_or, drop, nat_lt, Option}
use Rattle.std.specs.List.{list_all}
use Rattle.blink_lists.specs.declared.limits.TheConstants.{MOST_ROWS, PAGE_ROWS}
use Rattle.cell_layout.specs.Image.{TableImage, cell_at, decoded_row}
use Rattle.cell_layout.specs.Valid.{is_valid}
use Rattle.cell_scan.specs.Match.{rows_of_page, selected_rows}
use Rattle.code_join.specs.Keys.{Keyed}
use Rattle.late_decode.specs.declared.plan.GroupPlan.{GroupPlan}
use Rattle.late_decode.specs.Bounds.{combinations_in}
use Rattle.late_decode.specs.Groups.{Grouped}
use Rattle.code_group.specs.CellRow.{TiedRow, tied_row}
use Rattle.code_group.specs.Entries.{has_keys, maps_in, sizes_in}
use Rattle.code_group.specs.GroupRows.{picked_of, cell_rows_added}
use Rattle.code_group.specs.Plans.{plan_there, sums_numbers, are_of_plan, entries_within, none_behind}

-- a page of a cell of an image, the truth values of its rows, and what its rows are grouped by
pub record SelectedPage : Type 0 where
  pub image : TableImage
  pub cell : ℕ
  pub page : ℕ
  pub bits : List Bool
  pub keys : List Keyed
  pub plan : GroupPlan

abbrev pub page_of : TableImage → ℕ → ℕ → List Bool → List Keyed → GroupPlan → SelectedPage
page_of image cell page bits keys plan = record { image = image; cell = cell; page = page; bits = bits; keys = keys; plan = plan }

-- the codes of the row at a place of the page
abbrev pub codes_at : SelectedPage → ℕ → List ℕ
codes_at p at = slice_index_or (rows_of_page (cell_at p.image p.cell).rows p.page) at []

-- the row at a place of the page, beside the keys
abbrev pub row_at : SelectedPage → ℕ → TiedRow
row_at p at = tied_row p.image p.cell (p.page * PAGE_ROWS + at) p.plan.ties p.keys

-- the rows of the page from a place on that are selected
abbrev pub selected_from : SelectedPage → ℕ → List (List ℕ)
selected_from p from = selected_rows (drop from p.bits) (drop from (rows_of_page (cell_at p.image p.cell).rows p.page))

-- how many these are
abbrev pub count_from : SelectedPage → ℕ → ℕ
count_from p from = count_by (λ b. b) (drop from p.bits)

-- whether the tied values of a row are keys, and what is summed of it a good whole number
abbrev pub row_joined : SelectedPage → List ℕ → Bool
row_joined p codes = has_keys p.plan.ties p.keys (decoded_row p.image.columns (cell_at p.image p.cell).classes codes)

abbrev pub row_sums : SelectedPage → List ℕ → Bool
row_sums p codes = sums_numbers p.plan (picked_of p.image (cell_at p.image p.cell) p.plan p.keys codes)

-- what the sizes of tuples are in the cell
abbrev pub page_sizes : SelectedPage → List ℕ
page_sizes p = sizes_in p.image.columns (cell_at p.image p.cell).classes p.keys p.plan.keys

-- rows added to groups of the cell
abbrev pub page_added : SelectedPage → List (List ℕ) → Grouped (List ℕ) → Grouped (List ℕ)
page_added p rows groups = cell_rows_added p.image (cell_at p.image p.cell) p.plan p.keys rows groups

-- whether all tuples of groups are in range for the cell
abbrev pub page_within : SelectedPage → Grouped (List ℕ) → Bool
page_within p groups = entries_within p.image.columns (cell_at p.image p.cell).classes p.keys p.plan groups

-- the page may be grouped, with these maps
pub record MayGroup (p : SelectedPage) (maps : List (List (Option ℕ))) : Type 0 where
  pub valid : is_valid p.image ≡ true
  pub cell : p.cell < length p.image.cells
  pub bits : none_behind p.bits (length (rows_of_page (cell_at p.image p.cell).rows p.page)) ≡ true
  pub many : length p.keys ≡ length p.plan.ties
  pub tied : list_all (λ k. nat_lt k (length p.image.columns)) p.plan.ties ≡ true
  pub mapped : maps ≡ maps_in p.image.columns (cell_at p.image p.cell).classes p.plan.ties p.keys
  pub there : plan_there (length p.image.columns) p.keys p.plan ≡ true
  pub joined : list_all (row_joined p) (selected_from p 0) ≡ true
  pub numbers : list_all (row_sums p) (selected_from p 0) ≡ true

-- what is asked of groups of the cell, beside the page
pub record AreReady (p : SelectedPage) (groups : Grouped (List ℕ)) : Type 0 where
  pub planned : are_of_plan p.plan groups ≡ true
  pub few : combinations_in p.plan.measures groups + count_from p 0 ≤ MOST_ROWS

-- the selected rows before a place are added to groups
pub record AreAdded (p : SelectedPage) (from : ℕ) (old new : Grouped (List ℕ)) : Type 0 where
  pub added : page_added p (selected_from p from) new ≡ page_added p (selected_from p 0) old
  pub planned : are_of_plan p.plan new ≡ true
  pub within : page_within p old ≡ true → page_within p new ≡ true
  pub few : combinations_in p.plan.measures new + count_from p from ≤ combinations_in p.plan.measures old + count_from p 0
  pub grown : length new + count_from p from ≤ length old + count_from p 0
  pub joined : list_all (row_joined p) (selected_from p from) ≡ true
  pub numbers : list_all (row_sums p) (selected_from p from) ≡ true

-- all selected rows are added to groups
pub record HaveAll (p : SelectedPage) (old new : Grouped (List ℕ)) : Type 0 where
  pub added : new ≡ page_added p (selected_from p 0) old
  pub planned : are_of_plan p.plan new ≡ true
  pub within : page_within p old ≡ true → page_within p new ≡ true
  pub few : combinations_in p.plan.measures new ≤ combinations_in p.plan.measures old + count_from p 0
  pub grown : length new ≤ length old + count_from p 0
