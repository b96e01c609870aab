use Rattle.std.proofs.Common.{Vec, Global}
use Rattle.star_bind.specs.declared.star.factors.Factor.{Factor}
use Rattle.star_bind.proofs.GoodnessLemmas.{gathered_good}
use Rattle.star_bind.proofs.star.factors.where_factors.Goals as goal

pub returns-clause-good : goal.returns-clause-good
returns-clause-good c = gathered_good (λ (v : Vec Factor Global). v.items) c.gathered.result c.args.condition.now c.requires c.gathered.ensures
