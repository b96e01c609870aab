use Rattle.std.proofs.Common.{◌≡◌, map, take}
use Rattle.blink_histogram.proofs.ranks.numbers_of.Given as goal

abbrev pub invariant-loop-ranking : goal.invariant-loop-ranking
invariant-loop-ranking l = l.numbers.items ≡ map (λ r. r.number) (take l.ranking-index l.rankings)
