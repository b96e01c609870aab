use Rattle.code_join.proofs.EntryLemmas.{entries_of_keys as the_law}
use Rattle.code_join.proofs.laws.entries_of_keys.Goals as goal

pub returns : goal.returns
returns c = the_law
