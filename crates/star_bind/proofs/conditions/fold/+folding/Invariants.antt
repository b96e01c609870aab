use Rattle.std.proofs.Common.{◌≡◌, ◌++◌, map, drop, true}
use Rattle.std.specs.List.{list_all}
use Rattle.star_sql.specs.declared.ast.Conj.{Conj}
use Rattle.star_sql.specs.Conditions.{of_prim}
use Rattle.star_bind.specs.Checks.{primary_is_good, conj_is_good}
use Rattle.star_bind.specs.Lookup.{scope_from}
use Rattle.star_bind.proofs.conditions.fold.+folding.Given as goal

abbrev pub invariant-of_conj-loop-primary : goal.invariant-of_conj-loop-primary
invariant-of_conj-loop-primary g l = record {
  made : l.parts.items ++ map (of_prim (g.P.Part.of_test (scope_from l.scope)) (λ x. x) g.P.Part.of_every g.P.Part.of_some) (drop l.primary-index l.primaries) ≡ map (of_prim (g.P.Part.of_test (scope_from l.scope)) (λ x. x) g.P.Part.of_every g.P.Part.of_some) l.primaries;
  good : list_all primary_is_good (drop l.primary-index l.primaries) ≡ true;
}

abbrev pub invariant-of_cond-loop-conj : goal.invariant-of_cond-loop-conj
invariant-of_cond-loop-conj g l = record {
  made : l.parts.items ++ map (λ (conj : Conj). g.P.Part.of_every (map (of_prim (g.P.Part.of_test (scope_from l.scope)) (λ x. x) g.P.Part.of_every g.P.Part.of_some) conj.all)) (drop l.conj-index l.conjunctions) ≡ map (λ (conj : Conj). g.P.Part.of_every (map (of_prim (g.P.Part.of_test (scope_from l.scope)) (λ x. x) g.P.Part.of_every g.P.Part.of_some) conj.all)) l.conjunctions;
  good : list_all conj_is_good (drop l.conj-index l.conjunctions) ≡ true;
}
