use Rattle.std.proofs.Common.{◌≡◌, take}
use Rattle.late_decode.proofs.lines.copy_line.Given as goal

abbrev pub invariant-loop-field : goal.invariant-loop-field
invariant-loop-field l = l.fields.items ≡ take l.field-index l.line
