-- Truth of a test, and of a tree of tests, on one value. Source: ISO/IEC 9075 (predicates).
use Rattle.std.specs.Prelude.{ℕ, Bool, true, false, ◌&&◌, ◌||◌, List, nat_eq}
use Rattle.std.specs.List.{list_any, starts_with}
use Rattle.std.specs.declared.cmp.Ordering.{Ordering}
use Rattle.std.specs.Ordering.{is_eq, is_ne, is_lt, is_le, is_gt, is_ge}
use Rattle.blink_base.specs.declared.value.Value.{Value}
use Rattle.blink_base.specs.declared.value.Value.TheVariants.{Text}
use Rattle.blink_base.specs.declared.op.Op.{Op}
use Rattle.blink_base.specs.declared.op.Op.TheVariants.{Equal, Unequal, Less, LessEqual, Greater, GreaterEqual}
use Rattle.blink_base.specs.declared.test.Test.{Test}
use Rattle.blink_base.specs.declared.test.Test.TheVariants.{Is, Between, Among, Prefix}
use Rattle.blink_base.specs.declared.tree.Tree.{Tree, Leaf, All', Any', Row_of-Tree, end_of-Tree, more_of-Tree}
use Rattle.blink_base.specs.Values.{value_cmp, same_value}

-- whether a comparison holds of two values in this order
abbrev pub op_holds : Op → Ordering → Bool
op_holds Equal o = is_eq o
op_holds Unequal o = is_ne o
op_holds Less o = is_lt o
op_holds LessEqual o = is_le o
op_holds Greater o = is_gt o
op_holds GreaterEqual o = is_ge o

-- whether a value is a text with this front
abbrev pub begins_with : List ℕ → Value → Bool
begins_with front (Text t) = starts_with nat_eq t front
begins_with front v = false

-- whether a test is true of a value
abbrev pub test_holds : Test → Value → Bool
test_holds (Is op y) x = op_holds op (value_cmp x y)
test_holds (Between low high) x = is_le (value_cmp low x) && is_le (value_cmp x high)
test_holds (Among ys) x = list_any (same_value x) ys
test_holds (Prefix front) x = begins_with front x

-- whether a tree of tests is true of a value: an AND without parts is true, an OR without parts false
abbrev mutual
  pub tree_holds : Value → Tree → Bool
  tree_holds x (Leaf test) = test_holds test x
  tree_holds x (All' shape trees) = all_hold x trees
  tree_holds x (Any' shape trees) = any_holds x trees

  pub all_hold : {n : _} → Value → Row_of-Tree n → Bool
  all_hold x end_of-Tree = true
  all_hold x (more_of-Tree tree trees) = tree_holds x tree && all_hold x trees

  pub any_holds : {n : _} → Value → Row_of-Tree n → Bool
  any_holds x end_of-Tree = false
  any_holds x (more_of-Tree tree trees) = tree_holds x tree || any_holds x trees
