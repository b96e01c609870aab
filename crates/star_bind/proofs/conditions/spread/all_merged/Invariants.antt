use Rattle.std.proofs.Common.{◌≡◌, ◌++◌, map, drop}
use Rattle.star_bind.specs.Conjunctions.{merged}
use Rattle.star_bind.proofs.conditions.spread.all_merged.Given as goal

abbrev pub invariant-loop-row : goal.invariant-loop-row
invariant-loop-row l = l.all.items ++ map merged (drop l.row-index l.rows) ≡ map merged l.rows
