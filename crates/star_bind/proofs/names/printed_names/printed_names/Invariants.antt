use Rattle.std.proofs.Common.{◌≡◌, ◌++◌, map, drop}
use Rattle.star_meaning.specs.Answer.{printed_name}
use Rattle.star_bind.proofs.names.printed_names.printed_names.Given as goal

abbrev pub invariant-loop-item : goal.invariant-loop-item
invariant-loop-item l = l.names.items ++ map printed_name (drop l.item-index l.items) ≡ map printed_name l.items
