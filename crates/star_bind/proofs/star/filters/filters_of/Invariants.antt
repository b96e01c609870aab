use Rattle.std.proofs.Common.{◌≡◌, ◌++◌, ◌==◌, ◌&&◌, not, true, map, filter, drop}
use Rattle.std.specs.List.{list_all}
use Rattle.star_bind.specs.StarForm.{is_pair_factor, tables_in}
use Rattle.star_bind.specs.Checks.{primary_is_good}
use Rattle.star_bind.specs.FactorParts.{primary_of}
use Rattle.star_bind.specs.Lookup.{scope_from}
use Rattle.star_bind.proofs.star.filters.filters_of.Given as goal

abbrev pub invariant-loop-factor : goal.invariant-loop-factor
invariant-loop-factor l = record {
  made : map primary_of l.filters.items ++ filter (λ f. not (is_pair_factor f) && list_all (λ t. t == l.table) (tables_in (scope_from l.scope) f)) (map primary_of (drop l.factor-index l.factors)) ≡ filter (λ f. not (is_pair_factor f) && list_all (λ t. t == l.table) (tables_in (scope_from l.scope) f)) (map primary_of l.factors);
  good : list_all (λ f. primary_is_good (primary_of f)) l.filters.items ≡ true;
  left : list_all (λ f. primary_is_good (primary_of f)) (drop l.factor-index l.factors) ≡ true;
}
