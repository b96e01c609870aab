use Rattle.star_select.proofs.ImageAnswerLemmas.{images_may_be_asked}
use Rattle.star_select.proofs.laws.images_may_be_asked.Goals as goal

pub returns : goal.returns
returns c = images_may_be_asked c.queries_have_shape.ensures
