use Rattle.late_decode.proofs.EntryLemmas.{counts_bounded as the_law}
use Rattle.late_decode.proofs.laws.counts_bounded.Goals as goal

pub returns : goal.returns
returns c = the_law
