use Rattle.std.proofs.Common.{◌≡◌, ◌++◌, ◌==◌, map, filter, drop}
use Rattle.star_bind.proofs.conditions.merged.trees_of.Given as goal

abbrev pub invariant-loop-test : goal.invariant-loop-test
invariant-loop-test l = l.trees ++ map (λ t. t.tree) (filter (λ t. l.column == t.column) (drop l.test-index l.tests)) ≡ map (λ t. t.tree) (filter (λ t. l.column == t.column) l.tests)
