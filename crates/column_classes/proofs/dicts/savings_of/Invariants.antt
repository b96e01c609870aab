use Rattle.std.proofs.Common.{◌≡◌, map, take}
use Rattle.column_classes.specs.declared.column_stats.RankedColumn.{RankedColumn}
use Rattle.column_classes.proofs.dicts.savings_of.Given as goal

abbrev pub invariant-loop-column : goal.invariant-loop-column
invariant-loop-column l = l.savings.items ≡ map (λ (c : RankedColumn). c.saving) (take l.column-index l.columns)
