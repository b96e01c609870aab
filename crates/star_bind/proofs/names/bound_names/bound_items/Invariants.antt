use Rattle.std.proofs.Common.{◌≡◌, ◌++◌, map, drop}
use Rattle.star_bind.specs.BoundQuery.{bound_item_of}
use Rattle.star_bind.specs.Lookup.{scope_from}
use Rattle.star_bind.proofs.names.bound_names.bound_items.Given as goal

abbrev pub invariant-loop-item : goal.invariant-loop-item
invariant-loop-item l = l.all.items ++ map (λ i. bound_item_of (scope_from l.scope) i.what) (drop l.item-index l.items) ≡ map (λ i. bound_item_of (scope_from l.scope) i.what) l.items
