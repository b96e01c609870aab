use Rattle.star_select.proofs.KeySetLemmas.{selects_by_keys}
use Rattle.star_select.proofs.laws.selects_by_keys.Goals as goal

pub returns : goal.returns
returns c = selects_by_keys c.entries_of_keys.ensures
