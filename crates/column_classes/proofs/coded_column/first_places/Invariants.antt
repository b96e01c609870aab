use Rattle.std.proofs.Common.{◌≡◌, length}
use Rattle.column_classes.proofs.coded_column.first_places.Given as goal

abbrev pub invariant-loop-number : goal.invariant-loop-number
invariant-loop-number l = length l.places.items ≡ l._number
