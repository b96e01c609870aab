use Rattle.cell_scan.proofs.PageLemmas.{nothing_passes as the_law}
use Rattle.cell_scan.proofs.laws.nothing_passes.Goals as goal

pub returns : goal.returns
returns c = the_law
