use Rattle.std.proofs.Common.{◌≡◌, map, drop}
use Rattle.star_bind.specs.CappedCounts.{sum_from}
use Rattle.star_bind.proofs.conditions.count.sum_of.Given as goal

abbrev pub invariant-loop-part : goal.invariant-loop-part
invariant-loop-part l = sum_from l.sum (map (λ p. p.number) (drop l.part-index l.parts)) ≡ sum_from 0 (map (λ p. p.number) l.parts)
