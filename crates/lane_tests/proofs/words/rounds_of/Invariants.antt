use Rattle.std.proofs.Common.{All}
use Rattle.lane_scan.specs.Scan.{IsSpreadRound}
use Rattle.lane_tests.proofs.words.rounds_of.Given as goal

abbrev pub invariant-loop-at : goal.invariant-loop-at
invariant-loop-at l = All (IsSpreadRound l.shape) l.rounds.items
