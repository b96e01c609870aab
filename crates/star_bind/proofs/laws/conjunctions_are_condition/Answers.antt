use Rattle.star_bind.proofs.ConjunctionLemmas.{conjunctions_are_condition as the_law}
use Rattle.star_bind.proofs.laws.conjunctions_are_condition.Goals as goal

pub returns : goal.returns
returns c = the_law
