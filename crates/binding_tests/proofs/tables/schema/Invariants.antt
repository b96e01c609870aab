use Rattle.std.proofs.Common.{◌≡◌, ◌++◌, map, drop}
use Rattle.binding_tests.specs.Allowed.{column_of}
use Rattle.binding_tests.proofs.tables.schema.Given as goal

abbrev pub invariant-loop-name : goal.invariant-loop-name
invariant-loop-name l = l.list ++ map column_of (drop l.name-index l.columns) ≡ map column_of l.columns
