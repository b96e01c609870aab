use Rattle.std.proofs.Common.{◌≡◌, ◌-◌, find}
use Rattle.blink_lists.specs.Lists.{numbers_from}
use Rattle.star_bind.specs.Joints.{joints_fact}
use Rattle.star_bind.specs.Lookup.{scope_from}
use Rattle.star_bind.proofs.star.star_form.first_fact.Given as goal

abbrev pub invariant-loop-table : goal.invariant-loop-table
invariant-loop-table l = find (joints_fact (scope_from l.scope) l.joints) (numbers_from l.table (l.count - l.table)) ≡ find (joints_fact (scope_from l.scope) l.joints) (numbers_from 0 l.count)
