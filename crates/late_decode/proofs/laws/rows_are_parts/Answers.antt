use Rattle.late_decode.proofs.BoundLemmas.{rows_are_parts as the_law}
use Rattle.late_decode.proofs.laws.rows_are_parts.Goals as goal

pub returns : goal.returns
returns c = the_law
