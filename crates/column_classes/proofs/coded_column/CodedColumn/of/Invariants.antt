use Rattle.std.proofs.Common.{◌≡◌, length}
use Rattle.column_classes.specs.CodedColumn.{HavePlaces}
use Rattle.column_classes.proofs.coded_column.CodedColumn.of.Given as goal

abbrev pub invariant-loop-class : goal.invariant-loop-class
invariant-loop-class l = record {
  long : length l.places.items ≡ length l.interner;
  placed : HavePlaces l.interner l.classes l.places.items l.class 0;
}
