use Rattle.star_select.proofs.CodeSetLemmas.{empty_sets_pass_none as the_law}
use Rattle.star_select.proofs.laws.empty_sets_pass_none.Goals as goal

pub returns : goal.returns
returns c = the_law
