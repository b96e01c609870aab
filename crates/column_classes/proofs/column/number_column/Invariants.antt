use Rattle.std.proofs.Common.{◌≡◌, ◌+◌, ◌++◌, List, take}
use Rattle.blink_base.specs.declared.value.Value.{Value}
use Rattle.blink_histogram.specs.Ranks.{counted}
use Rattle.blink_histogram.specs.InternerRepr.{numbered_values}
use Rattle.column_classes.specs.ColumnClasses.{column_values}
use Rattle.column_classes.proofs.column.number_column.Given as goal

abbrev pub invariant-loop-row : goal.invariant-loop-row
invariant-loop-row l = record {
  counts : (before : List Value) → l.initial.interner ≡ counted before → l.interner ≡ counted (before ++ column_values (take l.row-index l.rows) l.column);
  number : numbered_values l.interner ≡ numbered_values l.initial.interner + l.row-index;
}
