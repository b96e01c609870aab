use Rattle.std.proofs.Common.{◌≡◌, ◌||◌, map, drop}
use Rattle.std.specs.List.{list_all}
use Rattle.star_bind.specs.StarForm.{is_pair_factor, is_filter}
use Rattle.star_bind.specs.FactorParts.{primary_of}
use Rattle.star_bind.specs.Lookup.{scope_from}
use Rattle.star_bind.proofs.star.filters.are_star_factors.Given as goal

abbrev pub invariant-loop-factor : goal.invariant-loop-factor
invariant-loop-factor l = list_all (λ f. is_pair_factor f || is_filter (scope_from l.scope) f) (map primary_of (drop l.factor-index l.factors)) ≡ list_all (λ f. is_pair_factor f || is_filter (scope_from l.scope) f) (map primary_of l.factors)
