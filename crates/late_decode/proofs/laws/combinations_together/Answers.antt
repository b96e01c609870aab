use Rattle.late_decode.proofs.AddedLemmas.{combinations_together as the_law}
use Rattle.late_decode.proofs.laws.combinations_together.Goals as goal

pub returns : goal.returns
returns c = the_law
