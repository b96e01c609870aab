-- A query over the images of its tables, and what its fact's image is asked. Source: this project's own.
use Rattle.std.specs.Prelude.{◌≡◌, ◌<◌, ◌≤◌, ℕ, true, List, length}
use Rattle.std.specs.List.{All}
use Rattle.blink_base.specs.RowFits.{fits}
use Rattle.blink_base.specs.Values.{Row}
use Rattle.blink_lists.specs.declared.limits.TheConstants.{MOST_ROWS}
use Rattle.star_sql.specs.declared.ast.Select.{Select}
use Rattle.star_bind.specs.declared.query.Query.{Query}
use Rattle.star_bind.specs.BoundQuery.{Schemas, query_of}
use Rattle.star_bind.specs.Joins.{filters_at}
use Rattle.star_bind.specs.QueryShape.{is_condition_on}
use Rattle.cell_layout.specs.Image.{TableImage, row_count}
use Rattle.code_join.specs.Keys.{Keyed}
use Rattle.code_group.specs.Entries.{picked_beside}
use Rattle.code_group.specs.Plans.{plan_there, sums_numbers}
use Rattle.star_select.specs.CellTests.{are_apart}
use Rattle.star_select.specs.CodeSelection.{NamesFact}
use Rattle.star_select.specs.ImageAnswer.{HasImages}
use Rattle.star_select.specs.KeySets.{is_selected}
use Rattle.star_select.specs.Picks.{tied_columns}
use Rattle.star_select.specs.Preconditions.{IsPageJoined}
use Rattle.star_select.specs.QueryPlan.{plan_of}

-- the query that a well formed, accepted statement is, and valid images of its tables, none of too many rows
pub record IsQueryOf (schemas : Schemas) (s : Select) (images : List TableImage) (query : Query) : Type 0 where
  pub bound : query ≡ query_of schemas s
  pub over : HasImages schemas s images
  pub few : All (λ image. row_count image ≤ MOST_ROWS) images

-- a query is that of such a statement
abbrev pub IsQueryOver : List TableImage → Query → Type 0
IsQueryOver images query = (schemas : Schemas) × (s : Select) × IsQueryOf schemas s images query

-- what the image of the fact is asked is there, beside the key maps of the ties
pub record IsFact (image : TableImage) (query : Query) (keys : List Keyed) : Type 0 where
  pub there : query.fact < length query.filters
  pub condition : is_condition_on (length image.columns) (filters_at query query.fact) ≡ true
  pub named : NamesFact (length image.columns) query keys
  pub apart : are_apart (tied_columns query) keys (filters_at query query.fact) ≡ true
  pub plan : plan_there (length image.columns) keys (plan_of query) ≡ true
  pub pages : (cell page : ℕ) → cell < length image.cells → IsPageJoined image query keys cell page
  pub numbers : (row : Row) → fits image.schema row ≡ true → is_selected query keys row ≡ true → sums_numbers (plan_of query) (picked_beside (tied_columns query) keys row) ≡ true
