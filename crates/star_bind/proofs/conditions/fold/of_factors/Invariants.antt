use Rattle.std.proofs.Common.{◌≡◌, ◌++◌, map, drop, true}
use Rattle.std.specs.List.{list_all}
use Rattle.star_sql.specs.Conditions.{of_prim}
use Rattle.star_bind.specs.Checks.{primary_is_good}
use Rattle.star_bind.specs.FactorParts.{primary_of}
use Rattle.star_bind.specs.Lookup.{scope_from}
use Rattle.star_bind.proofs.conditions.fold.of_factors.Given as goal

abbrev pub invariant-loop-factor : goal.invariant-loop-factor
invariant-loop-factor g l = record {
  made : l.parts.items ++ map (of_prim (g.P.Part.of_test (scope_from l.scope)) (λ x. x) g.P.Part.of_every g.P.Part.of_some) (map primary_of (drop l.factor-index l.factors)) ≡ map (of_prim (g.P.Part.of_test (scope_from l.scope)) (λ x. x) g.P.Part.of_every g.P.Part.of_some) (map primary_of l.factors);
  good : list_all (λ f. primary_is_good (primary_of f)) (drop l.factor-index l.factors) ≡ true;
}
