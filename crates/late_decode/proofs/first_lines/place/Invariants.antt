use Rattle.std.proofs.Common.{◌≡◌, ◌<◌, ℕ, [], false, slice_index_or}
use Rattle.std.specs.Ordering.{is_le}
use Rattle.blink_base.specs.Lines.{line_cmp}
use Rattle.late_decode.specs.GroupLines.{keys_of}
use Rattle.late_decode.proofs.first_lines.place.Given as goal

abbrev pub invariant-loop-at : goal.invariant-loop-at
invariant-loop-at l = record {
  above : (k : ℕ) → k < l.at → is_le (line_cmp (keys_of l.order) l.line (slice_index_or l.lines k [])) ≡ false;
}
