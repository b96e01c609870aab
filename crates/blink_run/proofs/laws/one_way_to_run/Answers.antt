use Rattle.blink_run.proofs.OutcomeLemmas.{runs_one_way}
use Rattle.blink_run.proofs.laws.one_way_to_run.Goals as goal

pub returns : goal.returns
returns c = runs_one_way c.one_spelling.ensures
