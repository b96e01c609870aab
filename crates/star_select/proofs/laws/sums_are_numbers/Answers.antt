use Rattle.star_select.proofs.PreconditionLemmas.{sums_are_numbers}
use Rattle.star_select.proofs.laws.sums_are_numbers.Goals as goal

pub returns : goal.returns
returns c = sums_are_numbers c.queries_have_shape.ensures c.images_may_be_asked.ensures c.selects_by_keys.ensures c.picks_by_place.ensures
