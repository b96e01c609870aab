use Rattle.std.proofs.Common.{◌≡◌, ◌++◌, replicate}
use Rattle.late_decode.proofs.lines.push_times.Given as goal

abbrev pub invariant-loop : goal.invariant-loop
invariant-loop l = l.lines.items ≡ l.fn.lines.items ++ replicate l.counter l.fn.line
