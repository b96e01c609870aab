use Rattle.std.proofs.Common.{map, ap, ◌∙◌}
use Rattle.star_bind.specs.declared.conditions.count.Count.{Count}
use Rattle.star_bind.specs.FactorParts.{primary_of}
use Rattle.star_bind.specs.Lookup.{scope_from}
use Rattle.star_bind.proofs.CappedCountLemmas.{factors_capped}
use Rattle.star_bind.proofs.conditions.count.factors_count.Goals as goal

pub returns : goal.returns
returns c = ap (λ (x : Count). x.number) c.in_ok-count.ensures ∙ factors_capped (scope_from c.args.scope.now) (map primary_of c.args.factors.now)
