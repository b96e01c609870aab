use Rattle.late_decode.proofs.AddedLemmas.{counts_added as the_law}
use Rattle.late_decode.proofs.laws.counts_added.Goals as goal

pub returns : goal.returns
returns c = the_law
