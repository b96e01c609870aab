use Rattle.star_select.proofs.KeySetLemmas.{picks_by_place as the_law}
use Rattle.star_select.proofs.laws.picks_by_place.Goals as goal

pub returns : goal.returns
returns c = the_law
