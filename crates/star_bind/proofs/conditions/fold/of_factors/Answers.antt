use Rattle.std.proofs.Common.{map}
use Rattle.star_sql.specs.Conditions.{of_prim}
use Rattle.star_bind.specs.declared.star.factors.Factor.{Factor}
use Rattle.star_bind.specs.Checks.{primary_is_good}
use Rattle.star_bind.specs.FactorParts.{primary_of}
use Rattle.star_bind.specs.Lookup.{scope_from}
use Rattle.star_bind.proofs.PartLemmas.{next_made, next_good}
use Rattle.star_bind.proofs.conditions.fold.of_factors.Goals as goal

pub loop-factor-preserved : goal.loop-factor-preserved
loop-factor-preserved g c =
    let f = of_prim (g.P.Part.of_test (scope_from c.args.scope.now)) (λ x. x) g.P.Part.of_every g.P.Part.of_some in
    record {
      made = next_made f c.loop-factor.parts.items c.push.new.self.items (map f (map primary_of c.args.factors.now)) c.args.factors.now c.loop-factor.factor-index c.factor-item.result c.in_ok-of_factor.field-0
          c.loop-factor-test.true c.factor-item.is c.in_ok-of_factor.ensures c.in_ok-push.ensures.items c.loop-factor.invariant.made;
      good = next_good (λ (x : Factor). primary_is_good (primary_of x)) c.args.factors.now c.loop-factor.factor-index c.factor-item.result c.loop-factor-test.true c.factor-item.is c.loop-factor.invariant.good;
    }
