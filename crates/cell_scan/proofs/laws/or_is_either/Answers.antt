use Rattle.cell_scan.proofs.PageLemmas.{or_is_either as the_law}
use Rattle.cell_scan.proofs.laws.or_is_either.Goals as goal

pub returns : goal.returns
returns c = the_law
