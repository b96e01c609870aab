use Rattle.star_select.proofs.PreconditionLemmas.{plans_are_there}
use Rattle.star_select.proofs.laws.plans_are_there.Goals as goal

pub returns : goal.returns
returns c = plans_are_there c.queries_have_shape.ensures c.images_may_be_asked.ensures
