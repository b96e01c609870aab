use Rattle.std.proofs.Common.{◌≡◌, length}
use Rattle.std.specs.Cmp.Lexicographic.{slice_cmp}
use Rattle.blink_base.specs.Lines.{field_cmp}
use Rattle.late_decode.proofs.order.compare_items.Given as goal

abbrev pub invariant-loop-first : goal.invariant-loop-first
invariant-loop-first l = slice_cmp field_cmp l.left l.right ≡ slice_cmp field_cmp l.fn.x l.fn.y

abbrev pub decreases-loop-first : goal.decreases-loop-first
decreases-loop-first l = length l.left
