use Rattle.std.proofs.Common.{◌≡◌, drop}
use Rattle.star_bind.specs.CappedCounts.{add_once}
use Rattle.star_bind.proofs.conditions.columns.add_columns.Given as goal

abbrev pub invariant-loop-column : goal.invariant-loop-column
invariant-loop-column l = add_once l.all (drop l.column-index l.more) ≡ add_once l.fn.all l.more
