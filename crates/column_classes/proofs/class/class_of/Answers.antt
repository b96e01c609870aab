use Rattle.std.proofs.Common.{rules, ap, ◌∙◌}
use Rattle.std.specs.Ordering.{is_lt}
use Rattle.std.proofs.lemmas.List.Sorted.{ranks_by, answers_always}
use Rattle.blink_lists.proofs.OrderLemmas.{sorted_in_order}
use Rattle.blink_lists.specs.Lists.{in_order}
use Rattle.blink_base.specs.Values.{value_cmp}
use Rattle.blink_base.specs.ValueOrder.{value_total, value_same}
use Rattle.blink_base.specs.declared.value.Value.{Value}
use Rattle.column_classes.proofs.class.class_of.Goals as goal

pub returns : goal.returns
returns c xs found =
    let sorted = c.in_ok-sort_by.ensures.sorted (λ x y. is_lt (value_cmp x y)) (ranks_by value_total (λ (x : Value). x)) (answers_always _ _ _ (λ f a r f' k. search rules)) in
    c.from_vec.ensures ∙ sorted_in_order value_cmp value_total value_same c.in_ok-values.values.items c.sort_by.new.self.items c.in_ok-sort_by.ensures.permutation sorted
    ∙ ap (in_order value_cmp) (c.in_ok-values.ensures xs found)
