use Rattle.std.proofs.Common.{◌≡◌, ◌++◌, map, drop}
use Rattle.blink_lists.specs.Lists.{joined}
use Rattle.star_bind.specs.Factors.{of_primary}
use Rattle.star_bind.specs.FactorParts.{primary_of}
use Rattle.star_bind.proofs.star.factors.+factoring.Given as goal

abbrev pub invariant-add_primaries-loop-primary : goal.invariant-add_primaries-loop-primary
invariant-add_primaries-loop-primary l = map primary_of l.factors.items ++ joined (map of_primary (drop l.primary-index l.primaries)) ≡ map primary_of l.fn.factors.items ++ joined (map of_primary l.primaries)
