use Rattle.star_bind.proofs.CountLemmas.{conjunctions_counted as the_law}
use Rattle.star_bind.proofs.laws.conjunctions_counted.Goals as goal

pub returns : goal.returns
returns c = the_law
