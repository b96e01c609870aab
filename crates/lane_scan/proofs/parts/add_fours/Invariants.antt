use Rattle.std.proofs.Common.{◌*◌}
use Rattle.lane_scan.specs.Scan.{row_lies}
use Rattle.lane_scan.proofs.RowLemmas.{IsAdded}
use Rattle.lane_scan.proofs.parts.add_fours.Given as goal

abbrev pub invariant-loop-at : goal.invariant-loop-at
invariant-loop-at l = IsAdded (row_lies l.shape l.rounds l.words) l.initial.into l.into l.first l.rows (l.at * 64)
