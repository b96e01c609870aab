use Rattle.star_bind.proofs.PartLemmas.{good_group}
use Rattle.star_bind.proofs.conditions.fold.inside.Goals as goal

pub returns-clause-good : goal.returns-clause-good
returns-clause-good c = good_group c.args.cond.now c.get.result.now c.get.ensures
