use Rattle.std.proofs.Common.{◌≡◌, map, filter, drop}
use Rattle.blink_lists.specs.Lists.{first_of}
use Rattle.star_bind.specs.Lookup.{scope_from, is_lost}
use Rattle.star_bind.proofs.names.name_checks.first_unknown_key.Given as goal

abbrev pub invariant-loop-name : goal.invariant-loop-name
invariant-loop-name l = first_of (filter (is_lost (scope_from l.scope) l.places) (map (λ x. x.now) (drop l.name-index l.keys))) ≡ first_of (filter (is_lost (scope_from l.scope) l.places) (map (λ x. x.now) l.keys))
