use Rattle.std.proofs.Common.{◌≡◌, map, take}
use Rattle.star_engine.proofs.columns.schema_of.Given as goal

abbrev pub invariant-loop-column : goal.invariant-loop-column
invariant-loop-column l = l.made ≡ map (λ column. record { name = column.name; kind = column.kind }) (take l.column-index l.columns)
