use Rattle.std.proofs.Common.{◌≡◌, ◌^◌, ◌&&◌, ◌++◌, true, map, drop, nat_lt}
use Rattle.std.specs.List.{list_all}
use Rattle.star_bind.specs.Joints.{tie_from_tied}
use Rattle.star_bind.proofs.star.ties.numbered_ties.Given as goal

abbrev pub invariant-loop-tie : goal.invariant-loop-tie
invariant-loop-tie l = record {
  made : l.all.items ++ map tie_from_tied (drop l.tie-index l.ties) ≡ map tie_from_tied l.ties;
  small : list_all (λ t. nat_lt t.dimension (2 ^ 32) && nat_lt t.column (2 ^ 32)) (drop l.tie-index l.ties) ≡ true;
}
