use Rattle.std.proofs.Common.{◌≡◌, ◌≤◌, ◌++◌, List, Some, map, drop, slice_get, sum, length}
use Rattle.blink_histogram.specs.Ranks.{Counted}
use Rattle.column_classes.specs.ColumnClasses.{classes_by}
use Rattle.column_classes.specs.ColumnStats.{HasValues}
use Rattle.column_classes.proofs.class.classes_in.Given as goal

abbrev pub invariant-loop-size : goal.invariant-loop-size
invariant-loop-size l = record {
  sums : sum (drop l.size-index l.sizes) ≤ length l.rest;
  found : HasValues l.interner l.rest;
  done : (values : List Counted) → map (slice_get l.interner) l.numbers ≡ map Some values
      → (left : List Counted) × (map (slice_get l.interner) l.rest ≡ map Some left) × (l.classes ++ classes_by left (drop l.size-index l.sizes) ≡ classes_by values l.sizes);
}
