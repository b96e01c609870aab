-- Trees of tests over lists.
use Rattle.std.proofs.Common.{◌≡◌, ◌&&◌, ◌||◌, List, refl, ◌∙◌, ap}
use Rattle.std.specs.List.{list_any, list_all}
use Rattle.blink_base.specs.declared.value.Value.{Value}
use Rattle.blink_base.specs.declared.tree.Tree.{Tree, All, Any, Row_of-Tree, end_of-Tree, more_of-Tree, items-the_row-Tree, items_hidden-the_row-Tree-0}
use Rattle.blink_base.specs.declared.tree.Tree.TheBlock.{hidden-the_row-Tree-0}
use Rattle.blink_base.specs.Tests.{tree_holds, all_hold, any_holds}

all_hold-items : (x : Value) {n : _} (row : Row_of-Tree n) → all_hold x row ≡ list_all (tree_holds x) (items-the_row-Tree n row)
all_hold-items x end_of-Tree = refl
all_hold-items x (more_of-Tree tree row) = ap (λ b. tree_holds x tree && b) (all_hold-items x row)

any_holds-items : (x : Value) {n : _} (row : Row_of-Tree n) → any_holds x row ≡ list_any (tree_holds x) (items-the_row-Tree n row)
any_holds-items x end_of-Tree = refl
any_holds-items x (more_of-Tree tree row) = ap (λ b. tree_holds x tree || b) (any_holds-items x row)

pub tree_all : (x : Value) (trees : List Tree) → tree_holds x (All trees) ≡ list_all (tree_holds x) trees
tree_all x trees = all_hold-items x (hidden-the_row-Tree-0 trees) ∙ ap (list_all (tree_holds x)) (items_hidden-the_row-Tree-0 trees)

pub tree_any : (x : Value) (trees : List Tree) → tree_holds x (Any trees) ≡ list_any (tree_holds x) trees
tree_any x trees = any_holds-items x (hidden-the_row-Tree-0 trees) ∙ ap (list_any (tree_holds x)) (items_hidden-the_row-Tree-0 trees)
