use Rattle.late_decode.proofs.BoundLemmas.{added_are_coded as the_law}
use Rattle.late_decode.proofs.laws.added_are_coded.Goals as goal

pub returns : goal.returns
returns c = the_law
