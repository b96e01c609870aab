use Rattle.std.proofs.Common.{◌≡◌, ◌≤◌, length, take, drop}
use Rattle.blink_base.specs.Lines.{line_cmp}
use Rattle.blink_lists.specs.Lists.{in_order}
use Rattle.late_decode.specs.GroupLines.{keys_of}
use Rattle.late_decode.proofs.first_lines.first_lines.Given as goal

abbrev pub invariant-loop-line : goal.invariant-loop-line
invariant-loop-line l = record {
  left : l.lines.items ≡ take (length l.lines.items) l.fn.lines.items;
  first : l.first.items ≡ take l.most (in_order (line_cmp (keys_of l.order)) (drop (length l.lines.items) l.fn.lines.items));
  few : length l.first.items ≤ l.most;
}

abbrev pub decreases-loop-line : goal.decreases-loop-line
decreases-loop-line l = length l.lines.items
