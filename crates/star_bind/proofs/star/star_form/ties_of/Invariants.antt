use Rattle.std.proofs.Common.{◌≡◌, ◌++◌, map, drop}
use Rattle.star_bind.specs.Joints.{tie_from_tied, ties_of_joints}
use Rattle.star_bind.specs.Lookup.{scope_from}
use Rattle.star_bind.proofs.star.star_form.ties_of.Given as goal

abbrev pub invariant-loop-joint : goal.invariant-loop-joint
invariant-loop-joint l = map tie_from_tied l.ties.items ++ ties_of_joints (scope_from l.scope) l.fact (drop l.joint-index l.joints) ≡ ties_of_joints (scope_from l.scope) l.fact l.joints
