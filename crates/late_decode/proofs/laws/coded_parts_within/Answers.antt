use Rattle.late_decode.proofs.EntryLemmas.{coded_parts_within as the_law}
use Rattle.late_decode.proofs.laws.coded_parts_within.Goals as goal

pub returns : goal.returns
returns c = the_law
