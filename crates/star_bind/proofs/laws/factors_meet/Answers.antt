use Rattle.star_bind.proofs.ConditionLemmas.{factors_meet as the_law}
use Rattle.star_bind.proofs.laws.factors_meet.Goals as goal

pub returns : goal.returns
returns c = the_law
