use Rattle.std.proofs.Common.{◌≡◌, map, drop}
use Rattle.blink_lists.specs.Lists.{joined, numbered_from}
use Rattle.star_meaning.specs.Names.{places_in, places}
use Rattle.star_bind.specs.Lookup.{scope_from, found_more, found_of}
use Rattle.star_bind.proofs.names.scope.find.Given as goal

abbrev pub invariant-loop-table : goal.invariant-loop-table
invariant-loop-table l = found_more l.found (joined (map (places_in l.name) (numbered_from l.table (scope_from (drop l.table l.scope))))) ≡ found_of (places (scope_from l.scope) l.name)
