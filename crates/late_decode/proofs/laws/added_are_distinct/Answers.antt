use Rattle.late_decode.proofs.AddedLemmas.{added_are_distinct as the_law}
use Rattle.late_decode.proofs.laws.added_are_distinct.Goals as goal

pub returns : goal.returns
returns c = the_law
