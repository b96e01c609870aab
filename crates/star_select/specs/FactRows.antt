-- The fact of a query beside its key maps, its rows while they are selected, and their groups. Source: after Raman et al., ICDE 2008 (star joins and aggregation on codes).
use Rattle.std.specs.Prelude.{◌≡◌, ◌≤◌, ◌+◌, ◌*◌, ℕ, Bool, true, List, filter, length, take, sum_by, [], ◌∷◌, slice_index_or}
use Rattle.std.specs.List.{list_all}
use Rattle.blink_base.specs.Values.{Row}
use Rattle.blink_lists.specs.declared.limits.TheConstants.{MOST_ROWS, PAGE_ROWS}
use Rattle.star_bind.specs.declared.query.Query.{Query}
use Rattle.cell_layout.specs.Image.{TableImage, CellImage, cell_at, row_count}
use Rattle.cell_layout.specs.Valid.{is_valid}
use Rattle.cell_scan.specs.declared.code_test.CodeTest.{CodeTest}
use Rattle.code_join.specs.Keys.{Keyed}
use Rattle.code_group.specs.GroupRows.{cell_rows_added}
use Rattle.code_group.specs.Plans.{are_of_plan, entries_within, fact_key_picks, fact_value_picks}
use Rattle.late_decode.specs.declared.plan.GroupPlan.{GroupPlan}
use Rattle.late_decode.specs.declared.plan.Measure.{Measure}
use Rattle.late_decode.specs.Bounds.{combinations_in}
use Rattle.late_decode.specs.Groups.{Grouped}
use Rattle.star_select.specs.CellTests.{may_be_asked, passes_some}
use Rattle.star_select.specs.CodeSelection.{codes_selected, fact_cells}
use Rattle.star_select.specs.KeySets.{is_selected}
use Rattle.star_select.specs.QueryImages.{IsFact}
use Rattle.star_select.specs.QueryPlan.{plan_of}

-- the image of a query's fact, and the key maps of its ties
pub record FactRows : Type 0 where
  pub image : TableImage
  pub query : Query
  pub keys : List Keyed

abbrev pub fact_rows : TableImage → Query → List Keyed → FactRows
fact_rows image query keys = record { image = image; query = query; keys = keys }

-- it may be grouped by this plan
pub record MayGroup (fact : FactRows) (plan : GroupPlan) : Type 0 where
  pub valid : is_valid fact.image ≡ true
  pub few : row_count fact.image ≤ MOST_ROWS
  pub planned : plan ≡ plan_of fact.query
  pub is_fact : IsFact fact.image fact.query fact.keys

-- its plan
abbrev pub fact_plan : FactRows → GroupPlan
fact_plan fact = plan_of fact.query

-- whether the codes of a row of a cell are selected
abbrev pub is_chosen : FactRows → ℕ → List ℕ → Bool
is_chosen fact cell codes = codes_selected fact.image.columns (cell_at fact.image cell).classes fact.query fact.keys codes

-- the selected rows of a cell that stand before a page
abbrev pub rows_before : FactRows → ℕ → ℕ → List (List ℕ)
rows_before fact cell page = filter (is_chosen fact cell) (take (page * PAGE_ROWS) (cell_at fact.image cell).rows)

-- the selected rows of a cell
abbrev pub chosen_in : FactRows → ℕ → List (List ℕ)
chosen_in fact cell = filter (is_chosen fact cell) (cell_at fact.image cell).rows

-- the first cells with their selected rows
abbrev pub cells_before : FactRows → ℕ → List (CellImage × List (List ℕ))
cells_before fact cell = take cell (fact_cells fact.image fact.query fact.keys)

-- how many rows are selected in these
abbrev pub chosen_before : FactRows → ℕ → ℕ
chosen_before fact cell = sum_by (λ (c : CellImage × List (List ℕ)). length c.1) (cells_before fact cell)

-- the selected ones of the first rows that are in no cell
abbrev pub rest_before : FactRows → ℕ → List Row
rest_before fact at = filter (is_selected fact.query fact.keys) (take at fact.image.rest)

-- the row at a place of those, where it is selected
abbrev pub rest_at : FactRows → ℕ → List Row
rest_at fact at = filter (is_selected fact.query fact.keys) (slice_index_or fact.image.rest at [] ∷ [])

-- how many values of the fact are decoded of a selected row, and of its group's key
abbrev pub picks_of : FactRows → ℕ
picks_of fact = fact_value_picks (fact_plan fact) + fact_key_picks (fact_plan fact)

-- lists of tests of codes select the rows of a cell
pub record AreTestsOf (fact : FactRows) (cell : ℕ) (tests : List (List CodeTest)) : Type 0 where
  pub asked : list_all (may_be_asked fact.image cell) tests ≡ true
  pub passed : (codes : List ℕ) → passes_some tests codes ≡ is_chosen fact cell codes

-- rows of a cell are added to its groups
pub record AreGrouped (fact : FactRows) (cell : ℕ) (rows : List (List ℕ)) (old new : Grouped (List ℕ)) : Type 0 where
  pub added : new ≡ cell_rows_added fact.image (cell_at fact.image cell) (fact_plan fact) fact.keys rows old
  pub planned : are_of_plan (fact_plan fact) new ≡ true
  pub within : entries_within fact.image.columns (cell_at fact.image cell).classes fact.keys (fact_plan fact) new ≡ true
  pub few : combinations_in (fact_plan fact).measures new ≤ combinations_in (fact_plan fact).measures old + length rows
  pub grown : length new ≤ length old + length rows

-- what is asked of groups of a cell, before so many rows are added
pub record MayGrow (fact : FactRows) (cell : ℕ) (groups : Grouped (List ℕ)) (rows : ℕ) : Type 0 where
  pub planned : are_of_plan (fact_plan fact) groups ≡ true
  pub within : entries_within fact.image.columns (cell_at fact.image cell).classes fact.keys (fact_plan fact) groups ≡ true
  pub few : combinations_in (fact_plan fact).measures groups + rows ≤ MOST_ROWS

-- what is asked of groups of values, before so many rows are added
pub record MayTake (fact : FactRows) (groups : List Measure × Grouped Row) (rows : ℕ) : Type 0 where
  pub measures : groups.0 ≡ (fact_plan fact).measures
  pub planned : are_of_plan (fact_plan fact) groups.1 ≡ true
  pub few : combinations_in (fact_plan fact).measures groups.1 + rows ≤ MOST_ROWS

-- groups of values are these, where so many rows were added
pub record HaveTaken (fact : FactRows) (old new : List Measure × Grouped Row) (groups : Grouped Row) (rows : ℕ) : Type 0 where
  pub measures : new.0 ≡ (fact_plan fact).measures
  pub taken : new.1 ≡ groups
  pub planned : are_of_plan (fact_plan fact) new.1 ≡ true
  pub few : combinations_in (fact_plan fact).measures new.1 ≤ combinations_in (fact_plan fact).measures old.1 + rows
