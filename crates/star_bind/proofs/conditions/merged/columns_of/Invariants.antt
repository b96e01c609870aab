use Rattle.std.proofs.Common.{◌≡◌, [], map, drop}
use Rattle.star_bind.specs.CappedCounts.{add_once}
use Rattle.star_bind.proofs.conditions.merged.columns_of.Given as goal

abbrev pub invariant-loop-test : goal.invariant-loop-test
invariant-loop-test l = add_once l.columns (map (λ t. t.column) (drop l.test-index l.tests)) ≡ add_once [] (map (λ t. t.column) l.tests)
