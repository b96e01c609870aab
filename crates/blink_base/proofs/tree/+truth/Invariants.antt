use Rattle.std.proofs.Common.{◌≡◌, drop}
use Rattle.std.specs.List.{list_any, list_all}
use Rattle.blink_base.specs.Tests.{tree_holds}
use Rattle.blink_base.proofs.tree.+truth.Given as goal

abbrev pub invariant-all_hold-loop-tree : goal.invariant-all_hold-loop-tree
invariant-all_hold-loop-tree l = list_all (tree_holds l.value) l.trees ≡ list_all (tree_holds l.value) (drop l.tree-index l.trees)

abbrev pub invariant-any_holds-loop-tree : goal.invariant-any_holds-loop-tree
invariant-any_holds-loop-tree l = list_any (tree_holds l.value) l.trees ≡ list_any (tree_holds l.value) (drop l.tree-index l.trees)
