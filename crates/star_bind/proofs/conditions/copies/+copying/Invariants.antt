use Rattle.std.proofs.Common.{◌≡◌, ◌++◌, drop}
use Rattle.star_bind.proofs.conditions.copies.+copying.Given as goal

abbrev pub invariant-trees_copy-loop-tree : goal.invariant-trees_copy-loop-tree
invariant-trees_copy-loop-tree l = l.copies.items ++ drop l.tree-index l.trees ≡ l.trees
