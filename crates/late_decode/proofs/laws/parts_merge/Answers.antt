use Rattle.late_decode.proofs.PartLemmas.{parts_merge as the_law}
use Rattle.late_decode.proofs.laws.parts_merge.Goals as goal

pub returns : goal.returns
returns c = the_law
