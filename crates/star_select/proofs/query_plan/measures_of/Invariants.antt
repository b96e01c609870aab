use Rattle.std.proofs.Common.{◌≡◌, ◌∷◌, ◌++◌, map, drop}
use Rattle.late_decode.specs.declared.plan.Measure.TheVariants.{Count}
use Rattle.star_select.specs.QueryPlan.{measure_of}
use Rattle.star_select.proofs.query_plan.measures_of.Given as goal

abbrev pub invariant-loop-item : goal.invariant-loop-item
invariant-loop-item l = l.measures.items ++ map (measure_of l.query) (drop l.item-index l.items) ≡ Count ∷ map (measure_of l.query) l.items
