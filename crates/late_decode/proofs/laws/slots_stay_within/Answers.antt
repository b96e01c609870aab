use Rattle.late_decode.proofs.AddedLemmas.{slots_stay_within as the_law}
use Rattle.late_decode.proofs.laws.slots_stay_within.Goals as goal

pub returns : goal.returns
returns c = the_law
