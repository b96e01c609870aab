use Rattle.std.proofs.Common.{◌≡◌, ◌++◌, map, drop, option_map}
use Rattle.star_meaning.specs.Answer.{item_place}
use Rattle.star_bind.specs.Lookup.{scope_from, place_in}
use Rattle.star_bind.proofs.names.name_checks.item_places.Given as goal

abbrev pub invariant-loop-item : goal.invariant-loop-item
invariant-loop-item l = l.places.items ++ map (λ i. option_map place_in (item_place (scope_from l.scope) i)) (drop l.item-index l.items) ≡ map (λ i. option_map place_in (item_place (scope_from l.scope) i)) l.items
