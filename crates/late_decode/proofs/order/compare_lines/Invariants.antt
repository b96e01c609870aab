use Rattle.std.proofs.Common.{◌≡◌, drop}
use Rattle.blink_base.specs.Lines.{line_cmp}
use Rattle.late_decode.specs.GroupLines.{keys_of}
use Rattle.late_decode.proofs.order.compare_lines.Given as goal

abbrev pub invariant-loop-key : goal.invariant-loop-key
invariant-loop-key l = line_cmp (keys_of l.order) l.x l.y ≡ line_cmp (keys_of (drop l.key-index l.order)) l.x l.y
