use Rattle.late_decode.proofs.AddedLemmas.{coded_combinations_added as the_law}
use Rattle.late_decode.proofs.laws.coded_combinations_added.Goals as goal

pub returns : goal.returns
returns c = the_law
