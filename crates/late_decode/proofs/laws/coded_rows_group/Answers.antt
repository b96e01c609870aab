use Rattle.late_decode.proofs.RowGroupLemmas.{coded_rows_group as the_law}
use Rattle.late_decode.proofs.laws.coded_rows_group.Goals as goal

pub returns : goal.returns
returns c = the_law
