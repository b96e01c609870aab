use Rattle.std.proofs.Common.{◌≡◌, ◌≤◌, take}
use Rattle.freq_partition.specs.ColumnChoice.{saved_in}
use Rattle.freq_partition.proofs.ColumnChoiceLemmas.{savers_from}
use Rattle.freq_partition.proofs.column_choice.greatest_of.Given as goal

abbrev pub invariant-loop-column : goal.invariant-loop-column
invariant-loop-column l = (saved_in l.greatest ≡ take 3 (savers_from l.column l.savings)) × (l.greatest.count ≤ 3)
