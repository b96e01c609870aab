use Rattle.std.proofs.Common.{◌≡◌, ◌++◌, map, drop}
use Rattle.std.specs.Prelude.{option_map}
use Rattle.star_meaning.specs.Names.{place_of}
use Rattle.star_bind.specs.Lookup.{scope_from, place_in}
use Rattle.star_bind.proofs.names.groups.group_places.Given as goal

abbrev pub invariant-loop-name : goal.invariant-loop-name
invariant-loop-name l = l.places.items ++ map (λ g. option_map place_in (place_of (scope_from l.scope) g)) (drop l.name-index l.groups) ≡ map (λ g. option_map place_in (place_of (scope_from l.scope) g)) l.groups
