use Rattle.column_classes.proofs.ColumnStatsLemmas.{columns_none}
use Rattle.column_classes.proofs.column.columns_of.Goals as goal

pub loop-column-preserved : goal.loop-column-preserved
loop-column-preserved c = columns_none c.loop-column._column c.loop-column.all.items c.push.new.self.items c.in_ok-keyed.field-0 c.loop-column.invariant c.in_ok-keyed.ensures c.in_ok-push.ensures.items
