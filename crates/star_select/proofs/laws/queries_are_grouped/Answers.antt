use Rattle.star_select.proofs.GroupRuleLemmas.{queries_are_grouped as the_law}
use Rattle.star_select.proofs.laws.queries_are_grouped.Goals as goal

pub returns : goal.returns
returns c = the_law
