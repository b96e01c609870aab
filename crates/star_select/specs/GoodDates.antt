-- Dates in the answer to a query over the images of its tables. Source: ISO/IEC 9075 (dates).
use Rattle.std.specs.Prelude.{◌≡◌, true, List}
use Rattle.report_text.specs.AnswerText.{are_good_lines}
use Rattle.star_sql.specs.declared.ast.Select.{Select}
use Rattle.star_meaning.specs.Answer.{answer}
use Rattle.star_bind.specs.BoundQuery.{Schemas, scope_of}
use Rattle.cell_layout.specs.Image.{TableImage}
use Rattle.star_select.specs.ImageAnswer.{rows_in, HasImages}

-- The law that each date in the answer to a query over valid images is one of the calendar.
abbrev pub AnswersHaveDates : Type 0
AnswersHaveDates = (schemas : Schemas) (s : Select) (images : List TableImage) → HasImages schemas s images → are_good_lines (answer (scope_of schemas s) s (rows_in images)).lines ≡ true
