-- An answer doesn't depend on the order of the rows.
use Rattle.std.proofs.Common.{◌≡◌, List, Option, Some, None}
use Rattle.blink_base.specs.Values.{Row}
use Rattle.blink_base.specs.Lines.{LinesInAnyOrder, TotalsInAnyOrder, TellsRows}
use Rattle.blink_lists.specs.Rearrangement.{Rearranged, AllRearranged}
use Rattle.blink_lists.proofs.RearrangementLemmas.{filter-rearranged, choices-rearranged}
use Rattle.star_sql.specs.declared.ast.Cond.{Cond}
use Rattle.star_sql.specs.declared.ast.Select.{Select}
use Rattle.star_meaning.specs.Names.{Scope}
use Rattle.star_meaning.specs.Truth.{is_true, kept}
use Rattle.star_meaning.specs.Groups.{has_aggregate}
use Rattle.star_meaning.specs.Answer.{line_keys, lines, printed_names, answer, AnswersInAnyOrder}
use Rattle.star_meaning.proofs.GroupLemmas.{lines_of-rearranged}

kept-rearranged : (scope : Scope) (cond : Option Cond) {xs ys : List (List Row)} → AllRearranged xs ys → Rearranged (kept scope cond xs) (kept scope cond ys)
kept-rearranged scope None r = choices-rearranged r
kept-rearranged scope (Some cond) r = filter-rearranged (is_true scope cond) (choices-rearranged r)

-- by the laws of lines, totals and rows
module _ (printed : LinesInAnyOrder) (totals : TotalsInAnyOrder) (rows : TellsRows) where
  lines-rearranged : (scope : Scope) (s : Select) (xs ys : List (List Row)) → AllRearranged xs ys → lines scope s xs ≡ lines scope s ys
  unfolding lines
  lines-rearranged scope s xs ys r = printed (line_keys scope s) s.limit _ _ (lines_of-rearranged totals rows scope s.items s.groups (has_aggregate s.items) (kept-rearranged scope s.condition r))

  pub answers_in_any_order : AnswersInAnyOrder
  unfolding answer
  answers_in_any_order scope s xs ys r = λ i. record { names = printed_names s; lines = lines-rearranged scope s xs ys r i }
