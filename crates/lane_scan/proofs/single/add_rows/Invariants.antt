use Rattle.lane_scan.specs.Scan.{row_lies}
use Rattle.lane_scan.proofs.RowLemmas.{IsAdded}
use Rattle.lane_scan.proofs.single.add_rows.Given as goal

abbrev pub invariant-loop-row : goal.invariant-loop-row
invariant-loop-row l = IsAdded (row_lies l.shape l.rounds l.words) l.initial.into l.into l.first l.rows l.row
