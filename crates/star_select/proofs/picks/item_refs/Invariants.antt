use Rattle.std.proofs.Common.{◌≡◌, ◌++◌, drop}
use Rattle.std.specs.List.{flat_map}
use Rattle.star_select.specs.Picks.{item_refs}
use Rattle.star_select.proofs.picks.item_refs.Given as goal

abbrev pub invariant-loop-item : goal.invariant-loop-item
invariant-loop-item l = l.refs.items ++ flat_map item_refs (drop l.item-index l.items) ≡ flat_map item_refs l.items
