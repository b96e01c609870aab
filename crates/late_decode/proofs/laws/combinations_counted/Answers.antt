use Rattle.late_decode.proofs.CombinationLemmas.{combinations_counted as the_law}
use Rattle.late_decode.proofs.laws.combinations_counted.Goals as goal

pub returns : goal.returns
returns c = the_law
