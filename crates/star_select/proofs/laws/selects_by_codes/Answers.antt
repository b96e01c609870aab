use Rattle.star_select.proofs.CodeSelectionLemmas.{selects_by_codes}
use Rattle.star_select.proofs.laws.selects_by_codes.Goals as goal

pub returns : goal.returns
returns c = selects_by_codes c.sets_are_tests.ensures c.selects_by_conjunctions.ensures
