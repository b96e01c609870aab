use Rattle.cell_predicates.proofs.PrefixLemmas.{prefix_is_range as the_law}
use Rattle.cell_predicates.proofs.laws.prefix_is_range.Goals as goal

pub returns : goal.returns
returns c = the_law
