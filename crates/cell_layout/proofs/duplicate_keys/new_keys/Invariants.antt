use Rattle.std.proofs.Common.{◌≡◌, ◌+◌, ◌++◌, List, take}
use Rattle.std.specs.List.{flat_map}
use Rattle.blink_base.specs.declared.value.Value.{Value}
use Rattle.blink_histogram.specs.Ranks.{counted}
use Rattle.blink_histogram.specs.InternerRepr.{numbered_values}
use Rattle.column_classes.specs.ColumnClasses.{column_values}
use Rattle.cell_layout.specs.CellRepr.{rows_in}
use Rattle.cell_layout.proofs.RepeatedKeyLemmas.{NoneOf}
use Rattle.cell_layout.proofs.duplicate_keys.new_keys.Given as goal

abbrev pub invariant-loop-row : goal.invariant-loop-row
invariant-loop-row g l = record {
  none : (rest : List Value) → l.initial.keys ≡ counted rest → NoneOf (column_values (flat_map (rows_in l.dicts) l.cells) l.key ++ rest) (column_values l.batch l.key) l.row;
  counts : (rest : List Value) → l.initial.keys ≡ counted rest → l.keys ≡ counted (rest ++ take l.row (column_values l.batch l.key));
  number : numbered_values l.keys ≡ numbered_values l.initial.keys + l.row;
}
