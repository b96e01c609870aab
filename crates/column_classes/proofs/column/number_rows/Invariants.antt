use Rattle.std.proofs.Common.{◌++◌, List, length, take}
use Rattle.blink_base.specs.Values.{Row}
use Rattle.column_classes.specs.ColumnStats.{AreColumns}
use Rattle.column_classes.proofs.column.number_rows.Given as goal

abbrev pub invariant-loop-row : goal.invariant-loop-row
invariant-loop-row l = (before : List Row) → AreColumns before (length l.initial.columns) l.initial.columns → AreColumns (before ++ take l.row-index l.rows) (length l.initial.columns) l.columns
