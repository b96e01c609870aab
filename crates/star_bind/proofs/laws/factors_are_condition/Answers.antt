use Rattle.star_bind.proofs.FactorLemmas.{factors_are_condition as the_law}
use Rattle.star_bind.proofs.laws.factors_are_condition.Goals as goal

pub returns : goal.returns
returns c = the_law
