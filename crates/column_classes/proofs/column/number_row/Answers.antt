use Rattle.std.proofs.Common.{length}
use Rattle.column_classes.proofs.ColumnStatsLemmas.{columns_row}
use Rattle.column_classes.proofs.column.number_row.Goals as goal

pub returns : goal.returns
returns c = λ before are. columns_row c.loop-column.column (length c.args.columns.now) before c.args.row.now c.loop-column.columns (c.loop-column.invariant before are) c.loop-column.auto.columns c.loop-column-test.false
