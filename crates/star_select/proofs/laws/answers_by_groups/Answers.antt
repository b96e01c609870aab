use Rattle.star_select.proofs.GroupAnswerLemmas.{answers_by_groups}
use Rattle.star_select.proofs.laws.answers_by_groups.Goals as goal

pub returns : goal.returns
returns c =
    answers_by_groups c.lines_in_any_order.ensures c.totals_in_any_order.ensures c.rows_are_told_apart.ensures c.answers_as_bound.ensures c.joins_by_keys.ensures c.queries_have_shape.ensures c.queries_are_grouped.ensures
    c.selects_by_keys.ensures c.picks_by_place.ensures
