-- The classes that rows call for are good.
use Rattle.column_classes.proofs.ClassesForLemmas.{called_valid}
use Rattle.column_classes.proofs.laws.classes_of_rows_are_good.Goals as goal

pub returns : goal.returns
returns c = called_valid
