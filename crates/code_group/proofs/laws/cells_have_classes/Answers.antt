use Rattle.code_group.proofs.CellLemmas.{cells-have-classes as the_law}
use Rattle.code_group.proofs.laws.cells_have_classes.Goals as goal

pub returns : goal.returns
returns c = the_law
