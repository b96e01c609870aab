use Rattle.std.proofs.Common.{◌≡◌, map, take}
use Rattle.std.specs.List.{list_any, list_all}
use Rattle.blink_base.specs.Tests.{tree_holds}
use Rattle.order_codes.specs.Dictionary.{class_at}
use Rattle.cell_predicates.proofs.code_sets.+bits.Given as goal

abbrev pub invariant-all_bits-loop-tree : goal.invariant-all_bits-loop-tree
invariant-all_bits-loop-tree g l = l.bits ≡ map (λ v. list_all (tree_holds v) (take l.tree-index l.trees)) (class_at l.dict l.class)

abbrev pub invariant-any_bits-loop-tree : goal.invariant-any_bits-loop-tree
invariant-any_bits-loop-tree g l = l.bits ≡ map (λ v. list_any (tree_holds v) (take l.tree-index l.trees)) (class_at l.dict l.class)
