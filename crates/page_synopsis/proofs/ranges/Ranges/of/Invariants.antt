use Rattle.page_synopsis.proofs.SetLemmas.{Taken}
use Rattle.page_synopsis.proofs.ranges.Ranges.of.Given as goal

abbrev pub invariant-loop-count : goal.invariant-loop-count
invariant-loop-count l = Taken l.bits l.ranges l.from l.count
