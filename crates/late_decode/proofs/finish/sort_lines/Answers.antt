use Rattle.std.proofs.Common.{rules}
use Rattle.std.specs.Ordering.{is_lt}
use Rattle.std.proofs.lemmas.Fn.{always_returns_same}
use Rattle.std.proofs.lemmas.List.Sorted.{ranks_by}
use Rattle.blink_lists.proofs.OrderLemmas.{sorted_in_order}
use Rattle.blink_base.specs.Lines.{Line, line_cmp}
use Rattle.blink_base.proofs.LineLemmas.{orders_lines}
use Rattle.late_decode.specs.GroupLines.{keys_of}
use Rattle.late_decode.proofs.finish.sort_lines.Goals as goal

pub returns : goal.returns
returns c =
    let keys = keys_of c.args.order.now in
    let order = orders_lines keys in
    let sorted = c.sort_unstable_by.ensures.sorted (λ x y. is_lt (line_cmp keys x y)) (ranks_by order.0 (λ (x : Line). x)) (always_returns_same _ _ _ (λ a r f' k. (search rules, search rules))) in
    sorted_in_order (line_cmp keys) order.0 order.1 c.args.lines.now.items c.sort_unstable_by.new.self.items c.sort_unstable_by.ensures.permutation sorted
