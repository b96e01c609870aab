use Rattle.std.proofs.Common.{◌≡◌, map, drop}
use Rattle.std.specs.List.{list_any}
use Rattle.star_bind.specs.WrongKind.{is_wrong_test}
use Rattle.star_bind.specs.Lookup.{scope_from}
use Rattle.star_bind.proofs.names.kinds.is_some_wrong.Given as goal

abbrev pub invariant-loop-words : goal.invariant-loop-words
invariant-loop-words l = list_any (is_wrong_test (scope_from l.scope)) (map (λ x. x.now) (drop l.words-index l.tests)) ≡ list_any (is_wrong_test (scope_from l.scope)) (map (λ x. x.now) l.tests)
