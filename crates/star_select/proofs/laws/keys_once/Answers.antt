use Rattle.star_select.proofs.KeyLemmas.{keys_once as the_law}
use Rattle.star_select.proofs.laws.keys_once.Goals as goal

pub returns : goal.returns
returns c = the_law
