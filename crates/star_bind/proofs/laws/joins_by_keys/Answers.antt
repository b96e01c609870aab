use Rattle.star_bind.proofs.JoinLemmas.{joins_by_keys as the_law}
use Rattle.star_bind.proofs.laws.joins_by_keys.Goals as goal

pub returns : goal.returns
returns c = the_law
