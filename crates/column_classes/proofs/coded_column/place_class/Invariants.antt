use Rattle.std.proofs.Common.{◌≡◌, length}
use Rattle.column_classes.specs.CodedColumn.{HavePlaces}
use Rattle.column_classes.proofs.coded_column.place_class.Given as goal

abbrev pub invariant-loop-code : goal.invariant-loop-code
invariant-loop-code l = record {
  long : length l.places.items ≡ length l.interner;
  placed : HavePlaces l.interner l.classes l.places.items l.class l.code;
}
