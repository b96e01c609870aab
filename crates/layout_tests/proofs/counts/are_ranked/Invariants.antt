use Rattle.std.proofs.Common.{◌≡◌}
use Rattle.blink_histogram.specs.InternerRepr.{numbered_values}
use Rattle.layout_tests.proofs.counts.are_ranked.Given as goal

abbrev pub invariant-loop-at : goal.invariant-loop-at
invariant-loop-at l = numbered_values l.interner ≡ l.at
