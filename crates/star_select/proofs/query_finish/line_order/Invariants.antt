use Rattle.std.proofs.Common.{◌≡◌, ◌++◌, map, drop}
use Rattle.star_select.proofs.query_finish.line_order.Given as goal

abbrev pub invariant-loop-key : goal.invariant-loop-key
invariant-loop-key l = l.keys.items ++ map (λ o. record { slot = o.item; falling = o.falling }) (drop l.key-index l.order) ≡ map (λ o. record { slot = o.item; falling = o.falling }) l.order
