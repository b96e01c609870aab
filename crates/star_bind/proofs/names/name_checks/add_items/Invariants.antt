use Rattle.std.proofs.Common.{◌≡◌, ◌++◌, map, flat_map, drop}
use Rattle.star_meaning.specs.NameRefusals.{item_names}
use Rattle.star_bind.proofs.names.name_checks.add_items.Given as goal

abbrev pub invariant-loop-item : goal.invariant-loop-item
invariant-loop-item l = map (λ x. x.now) l.names.items ++ flat_map (λ i. item_names i.what) (drop l.item-index l.items) ≡ map (λ x. x.now) l.fn.names.items ++ flat_map (λ i. item_names i.what) l.items
