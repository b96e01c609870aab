use Rattle.std.proofs.Common.{◌≡◌, map, drop}
use Rattle.std.specs.List.{list_any}
use Rattle.std.specs.Str.{bytes_eq}
use Rattle.star_engine.proofs.columns.is_named.Given as goal

abbrev pub invariant-loop-column : goal.invariant-loop-column
invariant-loop-column l =
    list_any (bytes_eq l.name) (map (λ column. column.name) l.columns) ≡ list_any (bytes_eq l.name) (map (λ column. column.name) (drop l.column-index l.columns))
