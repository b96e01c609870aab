use Rattle.late_decode.proofs.SumLemmas.{formulas_bounded as the_law}
use Rattle.late_decode.proofs.laws.formulas_bounded.Goals as goal

pub returns : goal.returns
returns c = the_law
