use Rattle.std.proofs.Common.{ap, ◌∙◌}
use Rattle.blink_base.specs.Lines.{line_cmp, cut_at}
use Rattle.blink_base.proofs.LineLemmas.{orders_lines}
use Rattle.blink_lists.specs.Lists.{in_order}
use Rattle.blink_lists.proofs.OrderLemmas.{in_order_rearranged}
use Rattle.late_decode.specs.GroupLines.{finished, keys_of, lines_of, or_single}
use Rattle.late_decode.proofs.groups.Groups.finish.Goals as goal

pub returns : goal.returns
unfolding finished
returns c =
    let finish = c.args.finish.now in
    let keys = keys_of finish.order in
    let o = orders_lines keys in
    let all = lines_of c.args.self.0 finish.slots finish.repeat (or_single finish.single c.args.self.0 c.args.self.1) in
    let order = in_order_rearranged (line_cmp keys) o.0 o.1 c.in_ok-lines.lines.items all c.in_ok-lines.ensures in
    let lines = c.from_vec.ensures ∙ c.in_ok-lines-2.ensures ∙ ap (cut_at finish.limit) order in
    λ i. record { names = c.in_ok-copy.ensures i; lines = lines i }
