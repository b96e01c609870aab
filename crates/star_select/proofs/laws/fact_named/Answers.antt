use Rattle.star_select.proofs.ImageAnswerLemmas.{fact_named}
use Rattle.star_select.proofs.laws.fact_named.Goals as goal

pub returns : goal.returns
returns c = fact_named c.queries_have_shape.ensures
