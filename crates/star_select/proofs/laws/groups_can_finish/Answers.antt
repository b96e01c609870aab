use Rattle.star_select.proofs.FinishLemmas.{groups_can_finish}
use Rattle.star_select.proofs.laws.groups_can_finish.Goals as goal

pub returns : goal.returns
returns c = groups_can_finish c.queries_are_grouped.ensures
