use Rattle.std.proofs.Common.{◌≡◌, ◌<◌, ◌+◌, ◌++◌, ℕ, List, length, get_or}
use Rattle.std.specs.Vec.Iter.{into_iter_items, into_iter_len}
use Rattle.blink_base.specs.declared.value.Value.{Value}
use Rattle.column_classes.specs.ColumnClasses.{column_values}
use Rattle.column_classes.specs.ColumnStats.{AreRanked}
use Rattle.column_classes.proofs.column_stats.ranked_columns.Given as goal

abbrev pub invariant-loop-column : goal.invariant-loop-column
invariant-loop-column l = record {
  counted : into_iter_len l.column-iterator ≡ length (into_iter_items l.column-iterator);
  left : length l.all.items + length (into_iter_items l.column-iterator) ≡ l.columns;
  each : (k : ℕ) (d : List Value) → k < length (into_iter_items l.column-iterator) → get_or (into_iter_items l.column-iterator) k d ≡ column_values (l.held ++ l.batch) (length l.all.items + k);
  ranked : AreRanked (l.held ++ l.batch) (length l.all.items) l.all.items;
}
