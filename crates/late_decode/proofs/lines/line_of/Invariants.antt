use Rattle.std.proofs.Common.{◌≡◌, take}
use Rattle.late_decode.specs.GroupLines.{group_line}
use Rattle.late_decode.specs.LineSteps.{group_fields}
use Rattle.late_decode.proofs.LineStepLemmas.{AreFields}
use Rattle.late_decode.proofs.lines.line_of.Given as goal

abbrev pub invariant-loop-slot : goal.invariant-loop-slot
invariant-loop-slot l =
    record {
      line : l.line.items ≡ group_line l.measures (take l.slot-index l.slots) (l.fn.key, l.fn.parts);
      left : AreFields l.line.items l.sources.items (group_fields l.measures (l.fn.key, l.fn.parts));
    }
