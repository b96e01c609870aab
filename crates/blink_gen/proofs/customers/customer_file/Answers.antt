use Rattle.std.proofs.Common.{rules}
use Rattle.blink_gen.specs.Demo.{customer_file}
use Rattle.blink_gen.proofs.FileLemmas.{customer_file-suc}
use Rattle.blink_gen.proofs.customers.customer_file.Goals as goal

pub loop-before-init : goal.loop-before-init
unfolding customer_file
loop-before-init c = search rules

pub loop-before-preserved : goal.loop-before-preserved
loop-before-preserved c = rw (c.in_ok-add_customer.ensures, c.loop-before.invariant) (customer_file-suc c.loop-before.before)
