use Rattle.cell_scan.proofs.PageLemmas.{selected_rows_pass as the_law}
use Rattle.cell_scan.proofs.laws.selected_rows_pass.Goals as goal

pub returns : goal.returns
returns c = the_law
