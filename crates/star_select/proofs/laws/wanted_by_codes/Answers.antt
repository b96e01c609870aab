use Rattle.star_select.proofs.CodeSelectionLemmas.{wanted_by_codes}
use Rattle.star_select.proofs.laws.wanted_by_codes.Goals as goal

pub returns : goal.returns
returns c = wanted_by_codes c.sets_are_tests.ensures
