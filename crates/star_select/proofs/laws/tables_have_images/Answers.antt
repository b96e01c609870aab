use Rattle.star_select.proofs.PreconditionLemmas.{tables_have_images}
use Rattle.star_select.proofs.laws.tables_have_images.Goals as goal

pub returns : goal.returns
returns c = tables_have_images c.queries_have_shape.ensures
