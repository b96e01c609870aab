use Rattle.std.proofs.Common.{◌≡◌, ◌++◌, map, drop}
use Rattle.star_bind.specs.BoundQuery.{meant}
use Rattle.star_bind.specs.Lookup.{scope_from}
use Rattle.star_bind.proofs.names.bound_names.bound_groups.Given as goal

abbrev pub invariant-loop-name : goal.invariant-loop-name
invariant-loop-name l = l.all.items ++ map (meant (scope_from l.scope)) (drop l.name-index l.groups) ≡ map (meant (scope_from l.scope)) l.groups
