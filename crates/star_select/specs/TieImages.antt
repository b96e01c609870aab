-- The image of the dimension that a tie leads to. Source: this project's own.
use Rattle.std.specs.Prelude.{◌≡◌, ◌<◌, ◌≤◌, true, List, [], length, Some, IsSome, slice_get}
use Rattle.std.specs.List.{All}
use Rattle.blink_lists.specs.declared.limits.TheConstants.{MOST_ROWS}
use Rattle.star_meaning.specs.Names.{Scope}
use Rattle.star_bind.specs.declared.query.Query.{Query}
use Rattle.star_bind.specs.declared.query.Tie.{Tie}
use Rattle.star_bind.specs.Joins.{filters_at}
use Rattle.star_bind.specs.QueryShape.{is_condition_on}
use Rattle.cell_layout.specs.Image.{TableImage, row_count}
use Rattle.cell_layout.specs.Valid.{is_valid}
use Rattle.code_join.specs.Keys.{are_keys}
use Rattle.dim_filter.specs.Entries.{collected, key_column}
use Rattle.star_select.specs.CodeSelection.{image_wanted}
use Rattle.star_select.specs.ImageAnswer.{rows_in}
use Rattle.star_select.specs.KeySets.{keyed_of}
use Rattle.star_select.specs.Picks.{wanted_columns}

-- an image is that of a tie's dimension, and may be asked for its keys
pub record IsTieImage (scope : Scope) (images : List TableImage) (query : Query) (tie : Tie) (image : TableImage) : Type 0 where
  pub here : slice_get images tie.dimension ≡ Some image
  pub valid : is_valid image ≡ true
  pub few : row_count image ≤ MOST_ROWS
  pub table : tie.dimension < length query.filters
  pub condition : is_condition_on (length image.columns) (filters_at query tie.dimension) ≡ true
  pub key : IsSome image.schema.key
  pub wanted : All (λ column. column < length image.columns) (wanted_columns query tie.dimension)
  pub once : are_keys (collected (key_column image) (wanted_columns query tie.dimension) [] (image_wanted image query tie.dimension)) ≡ true
  pub keys : keyed_of query scope (rows_in images) tie ≡ collected (key_column image) (wanted_columns query tie.dimension) [] (image_wanted image query tie.dimension)
