use Rattle.std.proofs.Common.{◌≡◌, ◌++◌, map, length}
use Rattle.std.specs.Vec.Iter.{into_iter_items, into_iter_len}
use Rattle.star_bind.proofs.conditions.branch.add_all.Given as goal

abbrev pub invariant-loop-tests : goal.invariant-loop-tests
invariant-loop-tests l = record {
  counted : into_iter_len l.tests-iterator ≡ length (into_iter_items l.tests-iterator);
  made : l.all ++ into_iter_items l.tests-iterator ≡ l.initial.all ++ into_iter_items l.initial.tests-iterator;
}
