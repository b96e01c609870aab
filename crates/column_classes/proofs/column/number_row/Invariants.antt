use Rattle.std.proofs.Common.{List, length}
use Rattle.blink_base.specs.Values.{Row}
use Rattle.column_classes.specs.ColumnStats.{AreColumns, AreColumnsTo}
use Rattle.column_classes.proofs.column.number_row.Given as goal

abbrev pub invariant-loop-column : goal.invariant-loop-column
invariant-loop-column l = (before : List Row) → AreColumns before (length l.initial.columns) l.initial.columns → AreColumnsTo l.column before l.row l.columns
