use Rattle.masked_compare.specs.Words.{IsClean}
use Rattle.lane_tests.proofs.words.with_row.Given as goal

abbrev pub invariant-loop-column : goal.invariant-loop-column
invariant-loop-column l = IsClean l.shape l.word
