use Rattle.std.proofs.Common.{◌≡◌, map}
use Rattle.blink_lists.specs.Lists.{numbers_from}
use Rattle.star_bind.specs.FactorParts.{primary_of}
use Rattle.star_bind.specs.Lookup.{scope_from}
use Rattle.star_bind.specs.QueryParts.{conjunctions_among}
use Rattle.star_bind.proofs.conditions.conjunctions.all_conjunctions.Given as goal

abbrev pub invariant-loop-table : goal.invariant-loop-table
invariant-loop-table l = l.made.items ≡ map (conjunctions_among (scope_from l.scope) (map primary_of l.all)) (numbers_from 0 l.table)
