-- What the calls that collect keys, scan, group and finish ask of the parts of a query over images. Source: this project's own.
use Rattle.std.specs.Prelude.{◌≡◌, ◌<◌, ◌==◌, ℕ, Bool, true, false, ◌&&◌, not, List, map, filter, length, Some, None, IsSome, slice_get}
use Rattle.std.specs.List.{All, list_all, list_any}
use Rattle.blink_base.specs.declared.value.Value.{Value}
use Rattle.blink_base.specs.RowFits.{fits}
use Rattle.blink_base.specs.Values.{Row}
use Rattle.blink_lists.specs.Lists.{are_distinct}
use Rattle.star_sql.specs.declared.ast.Select.{Select}
use Rattle.star_sql.specs.WellFormed.{is_select}
use Rattle.star_meaning.specs.Names.{Scope}
use Rattle.star_bind.specs.declared.query.Query.{Query}
use Rattle.star_bind.specs.declared.query.Tie.{Tie}
use Rattle.star_bind.specs.BoundQuery.{Schemas, scope_of, first_refusal, query_of}
use Rattle.star_bind.specs.Joins.{filters_at, key_at}
use Rattle.star_bind.specs.QueryShape.{is_condition_on}
use Rattle.order_codes.specs.Dictionary.{codes_where}
use Rattle.page_synopsis.specs.Runs.{in_both}
use Rattle.cell_layout.specs.Image.{TableImage, cell_at, decoded_row}
use Rattle.cell_scan.specs.Match.{CodeSet, passes_all, rows_of_page}
use Rattle.code_join.specs.Keys.{Keyed}
use Rattle.code_group.specs.Entries.{picked_beside, has_keys}
use Rattle.code_group.specs.GroupRows.{picked_of}
use Rattle.code_group.specs.Plans.{plan_there, sums_numbers, are_of_plan}
use Rattle.dim_filter.specs.Entries.{key_column}
use Rattle.late_decode.specs.Bounds.{counts_first, is_key_slot, slots_within}
use Rattle.late_decode.specs.Groups.{Grouped}
use Rattle.star_select.specs.CodeSelection.{fact_tests, codes_selected}
use Rattle.star_select.specs.ImageAnswer.{image_keys, HasImages}
use Rattle.star_select.specs.KeySets.{is_selected}
use Rattle.star_select.specs.Picks.{wanted_columns, tied_columns}
use Rattle.star_select.specs.QueryPlan.{plan_of, finish_of}

-- The law that all picks of a query's plan are there: columns of its fact's image, and wanted values of its key maps.
abbrev pub PlansAreThere : Type 0
PlansAreThere =
    (schemas : Schemas) (s : Select) (images : List TableImage) (image : TableImage) → HasImages schemas s images → slice_get images (query_of schemas s).fact ≡ Some image
    → plan_there (length image.columns) (image_keys (query_of schemas s) (scope_of schemas s) images) (plan_of (query_of schemas s)) ≡ true

-- The law that what is summed of a selected row of the fact is good whole numbers.
abbrev pub SumsAreNumbers : Type 0
SumsAreNumbers =
    (schemas : Schemas) (s : Select) (images : List TableImage) (image : TableImage) → HasImages schemas s images → slice_get images (query_of schemas s).fact ≡ Some image
    → (row : Row) → fits image.schema row ≡ true → is_selected (query_of schemas s) (image_keys (query_of schemas s) (scope_of schemas s) images) row ≡ true
    → sums_numbers (plan_of (query_of schemas s)) (picked_beside (tied_columns (query_of schemas s)) (image_keys (query_of schemas s) (scope_of schemas s) images) row) ≡ true

-- the selected rows of a page of a cell of the fact
abbrev pub page_selected : TableImage → Query → List Keyed → ℕ → ℕ → List (List ℕ)
page_selected image query keys cell page = filter (codes_selected image.columns (cell_at image cell).classes query keys) (rows_of_page (cell_at image cell).rows page)

-- the tied values of such rows are keys, and what is summed of them is good whole numbers
pub record IsPageJoined (image : TableImage) (query : Query) (keys : List Keyed) (cell page : ℕ) : Type 0 where
  pub joined : list_all (λ codes. has_keys (tied_columns query) keys (decoded_row image.columns (cell_at image cell).classes codes)) (page_selected image query keys cell page) ≡ true
  pub numbers : list_all (λ codes. sums_numbers (plan_of query) (picked_of image (cell_at image cell) (plan_of query) keys codes)) (page_selected image query keys cell page) ≡ true

-- The law that this holds of each page of each cell of the fact.
abbrev pub PagesAreJoined : Type 0
PagesAreJoined =
    (schemas : Schemas) (s : Select) (images : List TableImage) (image : TableImage) (cell page : ℕ) → HasImages schemas s images → slice_get images (query_of schemas s).fact ≡ Some image
    → cell < length image.cells → IsPageJoined image (query_of schemas s) (image_keys (query_of schemas s) (scope_of schemas s) images) cell page

-- the image of a tie's dimension has a key, which the key map is of, and the wanted columns
pub record IsDimension (query : Query) (scope : Scope) (tie : Tie) (image : TableImage) : Type 0 where
  pub key : IsSome image.schema.key
  pub column : key_at scope tie.dimension ≡ key_column image
  pub wanted : All (λ column. column < length image.columns) (wanted_columns query tie.dimension)

-- The law that each tie leads to such an image.
abbrev pub TiesHaveDimensions : Type 0
TiesHaveDimensions =
    (schemas : Schemas) (s : Select) (images : List TableImage) (place : ℕ) (tie : Tie) → HasImages schemas s images → slice_get (query_of schemas s).ties place ≡ Some tie
    → (image : TableImage) × (slice_get images tie.dimension ≡ Some image) × IsDimension (query_of schemas s) (scope_of schemas s) tie image

-- The law that the condition on each table is 1 to 64 conjunctions, each of columns of its image, and of none twice.
abbrev pub ConditionsAreThere : Type 0
ConditionsAreThere =
    (schemas : Schemas) (s : Select) (images : List TableImage) (image : TableImage) (table : ℕ) → HasImages schemas s images → slice_get images table ≡ Some image
    → is_condition_on (length image.columns) (filters_at (query_of schemas s) table) ≡ true

-- The law that a conjunction of the fact with all key sets tests no column twice.
abbrev pub FactTestsApart : Type 0
FactTestsApart =
    (schemas : Schemas) (s : Select) (keys : List Keyed) → is_select s ≡ true → first_refusal schemas s ≡ None
    → list_all (λ c. are_distinct (λ x y. x == y) (map (λ t. t.column) (fact_tests (query_of schemas s) keys c))) (filters_at (query_of schemas s) (query_of schemas s).fact) ≡ true

-- how a query's groups give lines is in range of groups by its plan
pub record CanFinish (query : Query) (groups : Grouped Row) : Type 0 where
  pub slots : slots_within (plan_of query).measures (finish_of query).slots groups ≡ true
  pub repeat : (finish_of query).repeat ≡ true → counts_first (plan_of query).measures ≡ true
  pub single : (finish_of query).single ≡ true → not (list_any is_key_slot (finish_of query).slots) ≡ true

-- The law that groups by a query's plan can be finished.
abbrev pub GroupsCanFinish : Type 0
GroupsCanFinish = (schemas : Schemas) (s : Select) (groups : Grouped Row) → first_refusal schemas s ≡ None → are_of_plan (plan_of (query_of schemas s)) groups ≡ true → CanFinish (query_of schemas s) groups

-- The law that the codes in two sets are those whose values pass both tests.
abbrev pub SetsMeet : Type 0
SetsMeet = (p q : Value → Bool) (values : List Value) → in_both (codes_where p values) (codes_where q values) ≡ codes_where (λ v. p v && q v) values

-- The law that no row passes sets of which one has no code.
abbrev pub EmptySetsPassNone : Type 0
EmptySetsPassNone = (sets : List CodeSet) (codes : List ℕ) → list_any (λ set. length set.codes == 0) sets ≡ true → passes_all sets codes ≡ false
