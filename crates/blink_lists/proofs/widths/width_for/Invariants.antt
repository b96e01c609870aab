use Rattle.std.proofs.Common.{◌≡◌, ◌<◌, ◌≤◌, ◌+◌, ◌^◌, ℕ}
use Rattle.blink_lists.specs.Widths.{width_for}
use Rattle.blink_lists.proofs.WidthLemmas.{width_from}
use Rattle.blink_lists.proofs.widths.width_for.Given as goal

abbrev pub invariant-loop-width : goal.invariant-loop-width
invariant-loop-width l = record {
  least : width_from l.width l.size ≡ width_for l.size;
  above : (w : ℕ) → 1 ≤ w → w + 1 ≡ l.width → 2 ^ w < l.size;
}
