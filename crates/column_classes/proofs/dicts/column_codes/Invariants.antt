use Rattle.std.proofs.Common.{◌≡◌, ◌<◌, ◌+◌, ◌++◌, ℕ, take, length, get_or}
use Rattle.std.specs.Vec.Iter.{into_iter_items, into_iter_len}
use Rattle.column_classes.specs.ColumnClasses.{divided_columns, ranked_columns}
use Rattle.column_classes.specs.ColumnStats.{IsRankedAt}
use Rattle.column_classes.specs.CodedColumn.{ArePlacesOf}
use Rattle.column_classes.specs.declared.column_stats.RankedColumn.{RankedColumn}
use Rattle.column_classes.proofs.dicts.column_codes.Given as goal

abbrev pub invariant-loop-column : goal.invariant-loop-column
invariant-loop-column g l = record {
  counted : into_iter_len l.column-iterator ≡ length (into_iter_items l.column-iterator);
  left : l.number + length (into_iter_items l.column-iterator) ≡ l.columns;
  each : (k : ℕ) (d : RankedColumn) → k < length (into_iter_items l.column-iterator)
      → IsRankedAt (l.held ++ l.batch) (l.number + k) (get_or (into_iter_items l.column-iterator) k d);
  dicts : l.codes.dicts ≡ take l.number (divided_columns (ranked_columns (l.held ++ l.batch) l.columns));
  places : ArePlacesOf (l.held ++ l.batch) l.codes.dicts l.codes.places;
}
