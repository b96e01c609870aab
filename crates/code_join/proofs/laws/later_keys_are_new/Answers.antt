use Rattle.code_join.proofs.DistinctKeyLemmas.{later_keys_are_new as the_law}
use Rattle.code_join.proofs.laws.later_keys_are_new.Goals as goal

pub returns : goal.returns
returns c = the_law
