use Rattle.star_bind.proofs.QueryShapeLemmas.{queries_have_shape}
use Rattle.star_bind.proofs.laws.queries_have_shape.Goals as goal

pub returns : goal.returns
returns c = queries_have_shape
