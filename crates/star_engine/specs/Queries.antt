-- What a SELECT answers over the tables that are there, or its first refusal, and how many values it may decode. Source: ISO/IEC 9075 (queries); after Raman et al., ICDE 2008 (late decoding); the order of refusals and the bound are this project's own.
use Rattle.std.specs.Prelude.{ℕ, List, Option, Some, None, option_map, filter_map, Result}
use Rattle.blink_base.specs.declared.answer.Answer.{Answer}
use Rattle.blink_base.specs.declared.refusal.Refusal.{Refusal}
use Rattle.blink_base.specs.Values.{Row}
use Rattle.cell_layout.specs.Image.{TableImage}
use Rattle.star_sql.specs.declared.ast.Select.{Select}
use Rattle.star_meaning.specs.Answer.{answer}
use Rattle.star_bind.specs.BoundQuery.{Schemas, scope_of, first_refusal, query_of}
use Rattle.star_select.specs.Decodes.{most_decodes}
use Rattle.star_select.specs.ImageAnswer.{rows_in as image_rows}
use Rattle.star_engine.specs.Changes.{unless}
use Rattle.star_engine.specs.State.{Tables, find_table}

-- the schemas of the tables that are there, by name
abbrev pub schemas_in : Tables → Schemas
schemas_in tables name = option_map (λ h. h.image.schema) (find_table tables name)

-- the rows accepted so far of the tables of a query, in the order of FROM
abbrev pub rows_in : Tables → Select → List (List Row)
rows_in tables s = filter_map (λ name. option_map (λ h. h.rows) (find_table tables name)) s.tables

-- the images of these tables
abbrev pub images_in : Tables → Select → List TableImage
images_in tables s = filter_map (λ name. option_map (λ h. h.image) (find_table tables name)) s.tables

-- SELECT: the answer over the accepted rows, or the first refusal
abbrev pub selected : Tables → Select → Result Answer Refusal
selected tables s = unless (first_refusal (schemas_in tables) s) (answer (scope_of (schemas_in tables) s) s (rows_in tables s))

-- none where the query is refused
abbrev pub decoded_unless : Option Refusal → ℕ → ℕ
decoded_unless None most = most
decoded_unless (Some why) most = 0

-- how many values a SELECT may decode
abbrev pub most_decoded : Tables → Select → ℕ
most_decoded tables s = decoded_unless (first_refusal (schemas_in tables) s) (most_decodes (query_of (schemas_in tables) s) (scope_of (schemas_in tables) s) (image_rows (images_in tables s)))
