use Rattle.code_group.proofs.PlanLemmas.{slots-of-plan as the_law}
use Rattle.code_group.proofs.laws.slots_are_of_plan.Goals as goal

pub returns : goal.returns
returns c = the_law
