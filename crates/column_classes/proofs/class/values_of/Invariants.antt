use Rattle.std.proofs.Common.{◌≡◌, List, Some, map, take, slice_get}
use Rattle.blink_histogram.specs.Ranks.{Counted}
use Rattle.column_classes.proofs.class.values_of.Given as goal

abbrev pub invariant-loop-number : goal.invariant-loop-number
invariant-loop-number l = (values : List Counted) → map (slice_get l.interner) l.numbers ≡ map Some values → l.values.items ≡ take l.number-index (map (λ (c : Counted). c.0) values)
