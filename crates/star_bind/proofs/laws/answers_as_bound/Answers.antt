use Rattle.star_bind.proofs.BoundAnswerLemmas.{answers_as_bound}
use Rattle.star_bind.proofs.laws.answers_as_bound.Goals as goal

pub returns : goal.returns
returns c = answers_as_bound
