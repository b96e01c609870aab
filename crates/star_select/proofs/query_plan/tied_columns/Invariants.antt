use Rattle.std.proofs.Common.{◌≡◌, ◌++◌, map, drop}
use Rattle.star_select.proofs.query_plan.tied_columns.Given as goal

abbrev pub invariant-loop-tie : goal.invariant-loop-tie
invariant-loop-tie l = l.columns.items ++ map (λ t. t.column) (drop l.tie-index l.ties) ≡ map (λ t. t.column) l.ties
