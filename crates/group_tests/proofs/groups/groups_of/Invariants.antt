use Rattle.group_tests.specs.Taken.{AreGroupsOf}
use Rattle.group_tests.proofs.groups.groups_of.Given as goal

abbrev pub invariant-loop-added : goal.invariant-loop-added
invariant-loop-added l = AreGroupsOf l.slots l.used l.groups
