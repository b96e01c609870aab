use Rattle.std.proofs.Common.{◌≡◌, map, drop}
use Rattle.std.specs.Str.{bytes_eq}
use Rattle.blink_lists.specs.Lists.{are_distinct}
use Rattle.star_engine.proofs.columns.are_named_apart.Given as goal

abbrev pub invariant-loop-place : goal.invariant-loop-place
invariant-loop-place l =
    are_distinct bytes_eq (map (λ column. column.name) l.columns) ≡ are_distinct bytes_eq (map (λ column. column.name) (drop l.place l.columns))
