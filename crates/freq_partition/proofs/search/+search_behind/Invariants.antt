use Rattle.std.proofs.Common.{◌≡◌, ◌-◌, ◌≤◌, length, drop}
use Rattle.freq_partition.specs.Candidate.{division_in}
use Rattle.freq_partition.specs.Division.{fronts}
use Rattle.freq_partition.specs.Search.{best_among}
use Rattle.freq_partition.proofs.SearchLemmas.{fronts_from}
use Rattle.freq_partition.proofs.search.+search_behind.Given as goal

abbrev pub decreases-search_behind : goal.decreases-search_behind
decreases-search_behind l = l.more

-- The best so far and the fronts left give what all fronts give.
abbrev pub invariant-loop-width : goal.invariant-loop-width
invariant-loop-width l =
    (1 ≤ l.width)
    × (best_among (division_in l.best) (division_in l.front) (drop l.taken l.ranked.counts.now) (fronts_from (l.more - 1) l.width (length l.ranked.counts.now - l.taken))
    ≡ best_among (division_in l.fn.best) (division_in l.front) (drop l.taken l.ranked.counts.now) (fronts l.more l.least (length l.ranked.counts.now - l.taken)))
