-- The search from no classes on goes over all candidates.
use Rattle.std.proofs.Common.{◌-◌, length, arith}
use Rattle.freq_partition.specs.Candidate.{division_in}
use Rattle.freq_partition.proofs.SearchLemmas.{finds_best}
use Rattle.freq_partition.proofs.division.best_of.Goals as goal

pub returns : goal.returns
returns c = finds_best (division_in c.none-none.result) (division_in c.with_rest-first.result) (division_in c.search_behind.result) (length c.args.ranked.now.counts.now - 0) c.args.ranked.now.counts.now c.none-none.ensures c.with_rest-first.ensures c.search_behind.ensures (omega arith) (let h = c.if-is_empty.ensures in grind arith)
