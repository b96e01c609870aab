use Rattle.std.proofs.Common.{◌≡◌, ◌≤◌, ◌++◌, map, reverse, length}
use Rattle.late_decode.specs.declared.source.Source.TheVariants.{Here}
use Rattle.late_decode.specs.LineSteps.{measure_fields}
use Rattle.late_decode.proofs.source.push_parts.Given as goal

abbrev pub invariant-loop-part : goal.invariant-loop-part
invariant-loop-part l =
    record {
      fits : length l.rest.items ≤ length l.measures;
      done : l.all.items ++ reverse (map (λ field. Here field) (measure_fields l.measures l.rest.items)) ≡ l.fn.all.items ++ reverse (map (λ field. Here field) (measure_fields l.measures l.fn.parts));
    }

abbrev pub decreases-loop-part : goal.decreases-loop-part
decreases-loop-part l = length l.rest.items
