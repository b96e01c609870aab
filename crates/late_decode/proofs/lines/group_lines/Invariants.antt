use Rattle.std.proofs.Common.{length}
use Rattle.late_decode.specs.GroupLines.{lines_of}
use Rattle.late_decode.proofs.GroupLineLemmas.{IsGiving}
use Rattle.late_decode.proofs.lines.group_lines.Given as goal

abbrev pub invariant-loop-key : goal.invariant-loop-key
invariant-loop-key l = IsGiving l.measures l.finish.slots l.finish.repeat (lines_of l.measures l.finish.slots l.finish.repeat l.fn.groups.entries) l.lines.items l.groups.entries

abbrev pub decreases-loop-key : goal.decreases-loop-key
decreases-loop-key l = length l.groups.entries
