use Rattle.code_join.proofs.EntryLemmas.{entries_by_place as the_law}
use Rattle.code_join.proofs.laws.entries_by_place.Goals as goal

pub returns : goal.returns
returns c = the_law
