use Rattle.std.proofs.Common.{◌≡◌}
use Rattle.blink_gen.specs.Demo.{customer_file}
use Rattle.blink_gen.proofs.customers.customer_file.Given as goal

abbrev pub invariant-loop-before : goal.invariant-loop-before
invariant-loop-before l = l.file.items ≡ customer_file l.before
