use Rattle.std.proofs.Common.{◌≡◌, sum, take}
use Rattle.freq_partition.specs.PrefixSums.{AreSums}
use Rattle.freq_partition.proofs.prefix_sums.PrefixSums.new.Given as goal

abbrev pub invariant-loop-at : goal.invariant-loop-at
invariant-loop-at l = (l.sum ≡ sum (take l.at l.counts)) × AreSums l.counts l.sums.items
