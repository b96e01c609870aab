use Rattle.star_select.proofs.PreconditionLemmas.{fact_tests_apart}
use Rattle.star_select.proofs.laws.fact_tests_apart.Goals as goal

pub returns : goal.returns
returns c = fact_tests_apart c.queries_have_shape.ensures
