use Rattle.cell_scan.proofs.PageLemmas.{pages_are_rows as the_law}
use Rattle.cell_scan.proofs.laws.pages_are_rows.Goals as goal

pub returns : goal.returns
returns c = the_law
