use Rattle.late_decode.proofs.SumLemmas.{sums_bounded as the_law}
use Rattle.late_decode.proofs.laws.sums_bounded.Goals as goal

pub returns : goal.returns
returns c = the_law
