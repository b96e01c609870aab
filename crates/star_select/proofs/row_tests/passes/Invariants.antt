use Rattle.std.proofs.Common.{◌≡◌, drop}
use Rattle.std.specs.List.{list_all}
use Rattle.star_bind.specs.Conjunctions.{passes, passes_test}
use Rattle.star_select.proofs.row_tests.passes.Given as goal

abbrev pub invariant-loop-test : goal.invariant-loop-test
invariant-loop-test l = list_all (passes_test l.row) (drop l.test-index l.tests) ≡ passes l.row l.conjunction
