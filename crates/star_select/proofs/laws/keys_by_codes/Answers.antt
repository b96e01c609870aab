use Rattle.star_select.proofs.WantedRowLemmas.{keys_by_codes}
use Rattle.star_select.proofs.laws.keys_by_codes.Goals as goal

pub returns : goal.returns
returns c = keys_by_codes c.wanted_by_codes.ensures c.conditions_are_there.ensures c.ties_have_dimensions.ensures
