use Rattle.star_meaning.proofs.RowOrderLemmas.{answers_in_any_order}
use Rattle.star_meaning.proofs.laws.rows_in_any_order.Goals as goal

pub returns : goal.returns
returns c = answers_in_any_order c.lines_in_any_order.ensures c.totals_in_any_order.ensures c.rows_are_told_apart.ensures
