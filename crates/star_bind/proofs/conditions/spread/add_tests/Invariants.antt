use Rattle.std.proofs.Common.{◌≡◌, ◌++◌, drop}
use Rattle.star_bind.proofs.conditions.spread.add_tests.Given as goal

abbrev pub invariant-loop-test : goal.invariant-loop-test
invariant-loop-test l = l.row ++ drop l.test-index l.more ≡ l.fn.row ++ l.more
