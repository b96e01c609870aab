use Rattle.std.proofs.Common.{◌≡◌, map, take, All}
use Rattle.blink_histogram.specs.RankEntry.{counted_in, HasPlace}
use Rattle.blink_histogram.proofs.interner.Interner.rankings.Given as goal

abbrev pub invariant-loop-at : goal.invariant-loop-at
invariant-loop-at l = (map counted_in l.rankings.items ≡ take l.at l.self) × All (HasPlace l.self) l.rankings.items
