use Rattle.star_bind.proofs.ConjunctionLemmas.{kept_by_conjunctions as the_law}
use Rattle.star_bind.proofs.laws.kept_by_conjunctions.Goals as goal

pub returns : goal.returns
returns c = the_law
