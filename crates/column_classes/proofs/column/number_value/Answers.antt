use Rattle.column_classes.proofs.ColumnStatsLemmas.{columns_to_more}
use Rattle.column_classes.proofs.column.number_value.Goals as goal

pub returns : goal.returns
returns c = λ before are.
    columns_to_more c.args.column before c.args.row.now c.args.columns.now c.push.new.self c.index-columns-column.result c.index-row-column.result c.requires.column c.requires.within are c.index-row-column.is c.in_ok-push.ensures.ok
