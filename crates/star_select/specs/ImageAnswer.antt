-- The answer to a query over the images of its tables: rows of the fact chosen by sets of codes, grouped by codes and by places of keys, decoded late, and merged with the rows that are in no cell. Source: ISO/IEC 9075 (queries) for the answer; after Raman et al., ICDE 2008 (queries over a frequency partition).
use Rattle.std.specs.Prelude.{◌≡◌, ℕ, true, List, [], map, length, Some, None, slice_get}
use Rattle.std.specs.List.{list_all}
use Rattle.blink_base.specs.Values.{Row}
use Rattle.star_sql.specs.declared.ast.Select.{Select}
use Rattle.star_sql.specs.WellFormed.{is_select}
use Rattle.star_meaning.specs.Names.{Scope}
use Rattle.star_meaning.specs.Answer.{answer}
use Rattle.star_bind.specs.declared.query.Query.{Query}
use Rattle.star_bind.specs.declared.query.Tie.{Tie}
use Rattle.star_bind.specs.BoundQuery.{Schemas, scope_of, first_refusal, query_of}
use Rattle.cell_layout.specs.Image.{TableImage, rows_of}
use Rattle.cell_layout.specs.Valid.{is_valid}
use Rattle.code_join.specs.Keys.{Keyed}
use Rattle.dim_filter.specs.Entries.{collected, key_column}
use Rattle.code_group.specs.GroupRows.{image_groups}
use Rattle.late_decode.specs.Groups.{Grouped}
use Rattle.star_select.specs.CodeSelection.{image_wanted, fact_cells, fact_rest, NamesFact}
use Rattle.star_select.specs.GroupAnswer.{answer_of_groups}
use Rattle.star_select.specs.KeySets.{keyed_of, key_maps, MayBeAsked}
use Rattle.star_select.specs.Picks.{wanted_columns}
use Rattle.star_select.specs.QueryPlan.{plan_of}

-- the rows that images stand for
abbrev pub rows_in : List TableImage → List (List Row)
rows_in images = map rows_of images

-- the key maps of a query's ties over images
abbrev pub image_keys : Query → Scope → List TableImage → List Keyed
image_keys query scope images = key_maps query scope (rows_in images)

-- the groups that the image of the fact gives
abbrev pub fact_groups : TableImage → Query → List Keyed → Grouped Row
fact_groups image query keys = image_groups image (plan_of query) keys (fact_cells image query keys) (fact_rest image query keys)

-- a well formed query that is accepted, and valid images of its tables, in the order of FROM
pub record HasImages (schemas : Schemas) (s : Select) (images : List TableImage) : Type 0 where
  pub formed : is_select s ≡ true
  pub free : first_refusal schemas s ≡ None
  pub same : map (λ image. image.schema) images ≡ map (λ entry. entry.schema) (scope_of schemas s)
  pub valid : list_all is_valid images ≡ true

-- The law that the tables of valid images may be asked.
abbrev pub ImagesMayBeAsked : Type 0
ImagesMayBeAsked = (schemas : Schemas) (s : Select) (images : List TableImage) → HasImages schemas s images → MayBeAsked schemas s (rows_in images)

-- The law that each table of a query has its image, its fact too.
abbrev pub TablesHaveImages : Type 0
TablesHaveImages =
    (schemas : Schemas) (s : Select) (images : List TableImage) → HasImages schemas s images
    → (length images ≡ length (query_of schemas s).tables) × (image : TableImage) × (slice_get images (query_of schemas s).fact ≡ Some image)

-- The law that what a query names of its fact's image is there.
abbrev pub FactNamed : Type 0
FactNamed =
    (schemas : Schemas) (s : Select) (images : List TableImage) (image : TableImage) → HasImages schemas s images → slice_get images (query_of schemas s).fact ≡ Some image
    → NamesFact (length image.columns) (query_of schemas s) (image_keys (query_of schemas s) (scope_of schemas s) images)

-- The law that the keys of a tie are those of the rows of its dimension's image whose codes are wanted, cell by cell, and then of those that are in no cell.
abbrev pub KeysByCodes : Type 0
KeysByCodes =
    (schemas : Schemas) (s : Select) (images : List TableImage) (image : TableImage) (place : ℕ) (tie : Tie) → HasImages schemas s images
    → slice_get (query_of schemas s).ties place ≡ Some tie → slice_get images tie.dimension ≡ Some image
    → keyed_of (query_of schemas s) (scope_of schemas s) (rows_in images) tie
    ≡ collected (key_column image) (wanted_columns (query_of schemas s) tie.dimension) [] (image_wanted image (query_of schemas s) tie.dimension)

-- The law that the answer to a query over the rows that images stand for is that of the groups that the image of its fact gives.
abbrev pub AnswersByCodes : Type 0
AnswersByCodes =
    (schemas : Schemas) (s : Select) (images : List TableImage) (image : TableImage) → HasImages schemas s images → slice_get images (query_of schemas s).fact ≡ Some image
    → answer (scope_of schemas s) s (rows_in images)
    ≡ answer_of_groups (query_of schemas s) (fact_groups image (query_of schemas s) (image_keys (query_of schemas s) (scope_of schemas s) images))
