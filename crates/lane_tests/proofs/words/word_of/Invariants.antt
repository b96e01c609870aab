use Rattle.masked_compare.specs.Words.{IsClean}
use Rattle.lane_tests.proofs.words.word_of.Given as goal

abbrev pub invariant-loop-lane : goal.invariant-loop-lane
invariant-loop-lane l = IsClean l.shape l.word
