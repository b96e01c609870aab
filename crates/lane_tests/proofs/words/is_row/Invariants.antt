use Rattle.std.proofs.Common.{◌≡◌, length}
use Rattle.lane_tests.proofs.RowLemmas.{AreWithin}
use Rattle.lane_tests.proofs.words.is_row.Given as goal

abbrev pub invariant-loop-column : goal.invariant-loop-column
invariant-loop-column l = (length l.codes ≡ length l.widths) × AreWithin l.widths l.codes l.column
