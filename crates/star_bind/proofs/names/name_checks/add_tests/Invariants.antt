use Rattle.std.proofs.Common.{◌≡◌, ◌++◌, map, flat_map, drop}
use Rattle.star_meaning.specs.NameRefusals.{test_names}
use Rattle.star_bind.proofs.names.name_checks.add_tests.Given as goal

abbrev pub invariant-loop-words : goal.invariant-loop-words
invariant-loop-words l = map (λ x. x.now) l.names.items ++ flat_map test_names (map (λ x. x.now) (drop l.words-index l.tests)) ≡ map (λ x. x.now) l.fn.names.items ++ flat_map test_names (map (λ x. x.now) l.tests)
