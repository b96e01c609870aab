use Rattle.star_select.proofs.CodeSetLemmas.{sets_meet as the_law}
use Rattle.star_select.proofs.laws.sets_meet.Goals as goal

pub returns : goal.returns
returns c = the_law
