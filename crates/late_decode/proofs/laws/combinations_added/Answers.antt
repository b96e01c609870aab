use Rattle.late_decode.proofs.AddedLemmas.{combinations_added as the_law}
use Rattle.late_decode.proofs.laws.combinations_added.Goals as goal

pub returns : goal.returns
returns c = the_law
