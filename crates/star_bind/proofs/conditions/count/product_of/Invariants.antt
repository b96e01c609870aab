use Rattle.std.proofs.Common.{◌≡◌, map, drop}
use Rattle.star_bind.specs.CappedCounts.{product_from}
use Rattle.star_bind.proofs.conditions.count.product_of.Given as goal

abbrev pub invariant-loop-part : goal.invariant-loop-part
invariant-loop-part l = product_from l.product (map (λ p. p.number) (drop l.part-index l.parts)) ≡ product_from 1 (map (λ p. p.number) l.parts)
