use Rattle.cell_scan.proofs.ValueTestLemmas.{sets_are_tests as the_law}
use Rattle.cell_scan.proofs.laws.sets_are_tests.Goals as goal

pub returns : goal.returns
returns c = the_law
