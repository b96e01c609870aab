use Rattle.star_bind.proofs.CapLemmas.{caps_compose as the_law}
use Rattle.star_bind.proofs.laws.caps_compose.Goals as goal

pub returns : goal.returns
returns c = the_law
