use Rattle.code_join.proofs.DistinctKeyLemmas.{first_keys_are_keys as the_law}
use Rattle.code_join.proofs.laws.first_keys_are_keys.Goals as goal

pub returns : goal.returns
returns c = the_law
