use Rattle.std.proofs.Common.{◌≡◌, ◌++◌, filter_map, drop}
use Rattle.star_bind.specs.Lookup.{scope_from}
use Rattle.star_bind.specs.QueryParts.{order_of}
use Rattle.star_bind.proofs.names.bound_names.bound_order.Given as goal

abbrev pub invariant-loop-key : goal.invariant-loop-key
invariant-loop-key l = l.all.items ++ filter_map (order_of (scope_from l.scope) l.items) (drop l.key-index l.keys) ≡ filter_map (order_of (scope_from l.scope) l.items) l.keys
