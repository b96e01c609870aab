use Rattle.std.proofs.Common.{◌≡◌, ◌++◌, drop}
use Rattle.star_bind.specs.Branches.{followed}
use Rattle.star_bind.proofs.conditions.spread.followed_by_each.Given as goal

abbrev pub invariant-loop-row : goal.invariant-loop-row
invariant-loop-row l = l.all ++ followed (drop l.row-index l.rows) l.made ≡ followed l.rows l.made
