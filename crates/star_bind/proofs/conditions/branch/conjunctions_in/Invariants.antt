use Rattle.std.proofs.Common.{◌≡◌, ◌++◌, map, length}
use Rattle.std.specs.Vec.Iter.{into_iter_items, into_iter_len}
use Rattle.blink_lists.specs.Lists.{joined}
use Rattle.star_bind.specs.Branches.{made_of}
use Rattle.star_bind.proofs.conditions.branch.conjunctions_in.Given as goal

abbrev pub invariant-loop-part : goal.invariant-loop-part
invariant-loop-part l = record {
  counted : into_iter_len l.part-iterator ≡ length (into_iter_items l.part-iterator);
  trees : l.trees ++ map (λ p. p.tree) (into_iter_items l.part-iterator) ≡ map (λ p. p.tree) (into_iter_items l.initial.part-iterator);
  rows : l.rows ++ joined (map made_of (into_iter_items l.part-iterator)) ≡ joined (map made_of (into_iter_items l.initial.part-iterator));
}
