use Rattle.code_join.proofs.EntryLemmas.{payloads_by_place as the_law}
use Rattle.code_join.proofs.laws.payloads_by_place.Goals as goal

pub returns : goal.returns
returns c = the_law
