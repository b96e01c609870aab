use Rattle.std.proofs.Common.{rules}
use Rattle.blink_gen.specs.Demo.{month_file}
use Rattle.blink_gen.proofs.FileLemmas.{month_file-suc}
use Rattle.blink_gen.proofs.months.month_file.Goals as goal

pub loop-month-init : goal.loop-month-init
unfolding month_file
loop-month-init c = search rules

pub loop-month-preserved : goal.loop-month-preserved
loop-month-preserved c = rw (c.in_ok-add_month.ensures, c.loop-month.invariant) (month_file-suc c.loop-month.month)
