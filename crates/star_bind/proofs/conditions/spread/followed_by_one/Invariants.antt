use Rattle.std.proofs.Common.{◌≡◌, ◌++◌, map, length}
use Rattle.std.specs.Vec.Iter.{into_iter_items, into_iter_len}
use Rattle.star_bind.proofs.conditions.spread.followed_by_one.Given as goal

abbrev pub invariant-loop-row : goal.invariant-loop-row
invariant-loop-row l = record {
  counted : into_iter_len l.row-iterator ≡ length (into_iter_items l.row-iterator);
  made : l.all.items ++ map (λ r. r ++ l.tests) (into_iter_items l.row-iterator) ≡ map (λ r. r ++ l.tests) (into_iter_items l.initial.row-iterator);
}
