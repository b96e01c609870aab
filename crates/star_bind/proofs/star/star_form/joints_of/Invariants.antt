use Rattle.std.proofs.Common.{◌≡◌, ◌++◌, map, drop}
use Rattle.star_bind.specs.StarForm.{is_pair_factor, pairs_in}
use Rattle.star_bind.specs.FactorParts.{primary_of}
use Rattle.star_bind.specs.Joints.{is_joint, pairs_of}
use Rattle.star_bind.specs.Lookup.{scope_from}
use Rattle.star_bind.proofs.star.star_form.joints_of.Given as goal

abbrev pub invariant-loop-factor : goal.invariant-loop-factor
invariant-loop-factor l = record {
  joint : map is_joint l.joints.items ++ map is_pair_factor (map primary_of (drop l.factor-index l.factors)) ≡ map is_pair_factor (map primary_of l.factors);
  pairs : map pairs_of l.joints.items ++ map (pairs_in (scope_from l.scope)) (map primary_of (drop l.factor-index l.factors)) ≡ map (pairs_in (scope_from l.scope)) (map primary_of l.factors);
}
