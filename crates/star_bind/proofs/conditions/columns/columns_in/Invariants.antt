use Rattle.std.proofs.Common.{◌≡◌, [], map, drop}
use Rattle.blink_lists.specs.Lists.{joined}
use Rattle.star_bind.specs.CappedCounts.{add_once}
use Rattle.star_bind.proofs.conditions.columns.columns_in.Given as goal

abbrev pub invariant-loop-part : goal.invariant-loop-part
invariant-loop-part g l = add_once l.all (joined (map g.P.HasColumns.names (drop l.part-index l.parts))) ≡ add_once [] (joined (map g.P.HasColumns.names l.parts))
