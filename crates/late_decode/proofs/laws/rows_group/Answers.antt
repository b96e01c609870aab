use Rattle.late_decode.proofs.RowGroupLemmas.{rows_group as the_law}
use Rattle.late_decode.proofs.laws.rows_group.Goals as goal

pub returns : goal.returns
returns c = the_law
