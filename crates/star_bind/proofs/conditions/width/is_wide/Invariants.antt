use Rattle.std.proofs.Common.{◌≡◌, ◌-◌, map}
use Rattle.std.specs.List.{list_any}
use Rattle.blink_lists.specs.Lists.{numbers_from}
use Rattle.star_bind.specs.FactorParts.{primary_of}
use Rattle.star_bind.specs.Lookup.{scope_from}
use Rattle.star_bind.proofs.WidthLemmas.{is_table_wide}
use Rattle.star_bind.proofs.conditions.width.is_wide.Given as goal

abbrev pub invariant-loop-table : goal.invariant-loop-table
invariant-loop-table l = list_any (is_table_wide (scope_from l.scope) (map primary_of l.all)) (numbers_from l.table (l.count - l.table)) ≡ list_any (is_table_wide (scope_from l.scope) (map primary_of l.all)) (numbers_from 0 l.count)
