use Rattle.star_select.proofs.FactTestLemmas.{selects_by_conjunctions as the_law}
use Rattle.star_select.proofs.laws.selects_by_conjunctions.Goals as goal

pub returns : goal.returns
returns c = the_law
