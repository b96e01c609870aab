use Rattle.std.proofs.Common.{◌≡◌, map, filter, drop}
use Rattle.blink_lists.specs.Lists.{first_of}
use Rattle.star_meaning.specs.NameRefusals.{is_ambiguous}
use Rattle.star_bind.specs.Lookup.{scope_from}
use Rattle.star_bind.proofs.names.name_checks.first_ambiguous.Given as goal

abbrev pub invariant-loop-name : goal.invariant-loop-name
invariant-loop-name l = first_of (filter (is_ambiguous (scope_from l.scope)) (map (λ x. x.now) (drop l.name-index l.names))) ≡ first_of (filter (is_ambiguous (scope_from l.scope)) (map (λ x. x.now) l.names))
