use Rattle.std.proofs.Common.{◌≡◌, ◌-◌, ◌≤◌, length, sum, take}
use Rattle.freq_partition.proofs.prefix_sums.PrefixSums.rows_before.Given as goal

abbrev pub invariant-loop-low : goal.invariant-loop-low
invariant-loop-low l = (l.high ≤ length l.self.sums.items) × (l.last.at ≤ l.rank) × (l.last.sum ≡ sum (take l.last.at l.self.counts.now))

abbrev pub decreases-loop-low : goal.decreases-loop-low
decreases-loop-low l = l.high - l.low
