use Rattle.late_decode.proofs.RowGroupLemmas.{spilled_group as the_law}
use Rattle.late_decode.proofs.laws.spilled_group.Goals as goal

pub returns : goal.returns
returns c = the_law
