use Rattle.star_select.proofs.PageLemmas.{pages_are_joined}
use Rattle.star_select.proofs.laws.pages_are_joined.Goals as goal

pub returns : goal.returns
returns c = pages_are_joined c.selects_by_codes.ensures c.fact_named.ensures c.sums_are_numbers.ensures
