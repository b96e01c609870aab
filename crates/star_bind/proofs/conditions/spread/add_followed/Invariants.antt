use Rattle.std.proofs.Common.{◌≡◌, ◌++◌, map, drop}
use Rattle.star_bind.proofs.conditions.spread.add_followed.Given as goal

abbrev pub invariant-loop-tests : goal.invariant-loop-tests
invariant-loop-tests l = l.all ++ map (λ t. l.row ++ t) (drop l.tests-index l.made) ≡ l.fn.all ++ map (λ t. l.row ++ t) l.made
