use Rattle.star_select.proofs.WantedRowLemmas.{conditions_are_there}
use Rattle.star_select.proofs.laws.conditions_are_there.Goals as goal

pub returns : goal.returns
returns c = conditions_are_there c.queries_have_shape.ensures
