use Rattle.std.proofs.Common.{All}
use Rattle.masked_compare.specs.Words.{IsClean}
use Rattle.lane_tests.proofs.words.words_of.Given as goal

abbrev pub invariant-loop-at : goal.invariant-loop-at
invariant-loop-at l = All (IsClean l.shape) l.made.items
