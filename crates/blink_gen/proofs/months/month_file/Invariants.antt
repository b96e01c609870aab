use Rattle.std.proofs.Common.{◌≡◌}
use Rattle.blink_gen.specs.Demo.{month_file}
use Rattle.blink_gen.proofs.months.month_file.Given as goal

abbrev pub invariant-loop-month : goal.invariant-loop-month
invariant-loop-month l = l.file.items ≡ month_file l.month
