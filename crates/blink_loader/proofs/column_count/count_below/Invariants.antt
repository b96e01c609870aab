use Rattle.std.proofs.Common.{◌≡◌, ◌≤◌, ◌+◌, length}
use Rattle.std.specs.List.{count_by}
use Rattle.blink_loader.specs.RangeCount.{first_fault, is_counted}
use Rattle.blink_loader.proofs.column_count.count_below.Given as goal

abbrev pub invariant-loop-found : goal.invariant-loop-found
invariant-loop-found l =
    (first_fault l.width 1 l.initial.rows ≡ first_fault l.width (l.at + 1) l.rows)
    × (l.count + count_by (is_counted l.column l.fn.low l.fn.high) l.rows ≡ count_by (is_counted l.column l.fn.low l.fn.high) l.initial.rows)
    × (l.count + length l.rows ≤ length l.initial.rows)
    × (l.at + length l.rows ≤ length l.initial.rows)

abbrev pub decreases-loop-found : goal.decreases-loop-found
decreases-loop-found l = length l.rows
