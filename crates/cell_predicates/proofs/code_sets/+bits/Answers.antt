use Rattle.std.proofs.Common.{◌≡◌, List, Bool, IfOk, map, take, replicate, false, arith, sym, ◌∙◌, ap, subst}
use Rattle.std.specs.List.{list_any, list_all}
use Rattle.std.proofs.lemmas.List.{take_all}
use Rattle.blink_base.specs.declared.tree.Tree.{All, Any}
use Rattle.blink_base.specs.Tests.{tree_holds}
use Rattle.blink_base.proofs.TreeLemmas.{tree_all, tree_any}
use Rattle.order_codes.specs.Dictionary.{class_at}
use Rattle.row_bits.specs.Bits.{both_true, some_true}
use Rattle.page_synopsis.specs.BitSets.{with_range}
use Rattle.cell_predicates.proofs.TestLemmas.{all_codes, no_codes, all_more, any_more, map_alike}
use Rattle.cell_predicates.proofs.code_sets.+bits.Goals as goal

pub all_bits-loop-tree-init : goal.all_bits-loop-tree-init
all_bits-loop-tree-init g t c =
    c.set_range.ensures ∙ ap (with_range 0 c.size-size.result) c.in_ok-bits.ensures
    ∙ ap (λ n. with_range 0 n (replicate n false)) c.size-size.ensures ∙ all_codes (class_at c.args.dict.now c.args.class)

pub all_bits-loop-tree-preserved : goal.all_bits-loop-tree-preserved
all_bits-loop-tree-preserved g t c =
    c.and_with.ensures ∙ (λ i. both_true (c.loop-tree.invariant i) (c.in_ok-passed.ensures i))
    ∙ ap (λ d. both_true (map (λ v. list_all (tree_holds v) (take c.loop-tree.tree-index c.args.trees.now)) (class_at c.args.dict.now c.args.class)) (map (λ v. tree_holds v d) (class_at c.args.dict.now c.args.class))) c.tree-item.is
    ∙ all_more tree_holds (class_at c.args.dict.now c.args.class) c.args.trees.now c.loop-tree.tree-index c.tree-item.result c.loop-tree-test.true

pub all_bits-returns : goal.all_bits-returns
all_bits-returns g t c =
    c.loop-tree.invariant ∙ ap (λ l. map (λ v. list_all (tree_holds v) l) (class_at c.args.dict.now c.args.class)) (take_all c.loop-tree.tree-index c.args.trees.now (omega arith))

pub any_bits-loop-tree-init : goal.any_bits-loop-tree-init
any_bits-loop-tree-init g t c = c.in_ok-bits.ensures ∙ ap (λ n. replicate n false) c.size.ensures ∙ no_codes (class_at c.args.dict.now c.args.class)

pub any_bits-loop-tree-preserved : goal.any_bits-loop-tree-preserved
any_bits-loop-tree-preserved g t c =
    c.or_with.ensures ∙ (λ i. some_true (c.loop-tree.invariant i) (c.in_ok-passed.ensures i))
    ∙ ap (λ d. some_true (map (λ v. list_any (tree_holds v) (take c.loop-tree.tree-index c.args.trees.now)) (class_at c.args.dict.now c.args.class)) (map (λ v. tree_holds v d) (class_at c.args.dict.now c.args.class))) c.tree-item.is
    ∙ any_more tree_holds (class_at c.args.dict.now c.args.class) c.args.trees.now c.loop-tree.tree-index c.tree-item.result c.loop-tree-test.true

pub any_bits-returns : goal.any_bits-returns
any_bits-returns g t c =
    c.loop-tree.invariant ∙ ap (λ l. map (λ v. list_any (tree_holds v) l) (class_at c.args.dict.now c.args.class)) (take_all c.loop-tree.tree-index c.args.trees.now (omega arith))

pub tree_bits-returns-in-All : goal.tree_bits-returns-in-All
tree_bits-returns-in-All g t c =
    let values = class_at c.args.dict.now c.args.class in
    let e : map (λ v. list_all (tree_holds v) c.as_slice.result.now) values ≡ map (λ v. tree_holds v c.args.tree.now) values =
    ap (λ l. map (λ v. list_all (tree_holds v) l) values) c.as_slice.ensures
    ∙ map_alike (λ v. list_all (tree_holds v) c.in-All.trees) (λ v. tree_holds v (All c.in-All.trees)) (λ v. sym (tree_all v c.in-All.trees)) values
    ∙ ap (λ tree. map (λ v. tree_holds v tree) values) (sym c.in-All.is) in
    subst (λ (bs : List Bool). IfOk c.all_bits.result (λ bits. bits ≡ bs)) e c.all_bits.ensures

pub tree_bits-returns-in-Any : goal.tree_bits-returns-in-Any
tree_bits-returns-in-Any g t c =
    let values = class_at c.args.dict.now c.args.class in
    let e : map (λ v. list_any (tree_holds v) c.as_slice-in-Any.result.now) values ≡ map (λ v. tree_holds v c.args.tree.now) values =
    ap (λ l. map (λ v. list_any (tree_holds v) l) values) c.as_slice-in-Any.ensures
    ∙ map_alike (λ v. list_any (tree_holds v) c.in-Any.trees) (λ v. tree_holds v (Any c.in-Any.trees)) (λ v. sym (tree_any v c.in-Any.trees)) values
    ∙ ap (λ tree. map (λ v. tree_holds v tree) values) (sym c.in-Any.is) in
    subst (λ (bs : List Bool). IfOk c.any_bits.result (λ bits. bits ≡ bs)) e c.any_bits.ensures
