use Rattle.star_select.proofs.PreconditionLemmas.{ties_have_dimensions}
use Rattle.star_select.proofs.laws.ties_have_dimensions.Goals as goal

pub returns : goal.returns
returns c = ties_have_dimensions c.queries_have_shape.ensures
