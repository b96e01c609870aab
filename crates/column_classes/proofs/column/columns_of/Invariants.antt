use Rattle.std.proofs.Common.{[]}
use Rattle.column_classes.specs.ColumnStats.{AreColumns}
use Rattle.column_classes.proofs.column.columns_of.Given as goal

abbrev pub invariant-loop-column : goal.invariant-loop-column
invariant-loop-column l = AreColumns [] l._column l.all.items
