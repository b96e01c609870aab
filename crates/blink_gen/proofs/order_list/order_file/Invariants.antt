use Rattle.std.proofs.Common.{◌≡◌, ◌*◌}
use Rattle.blink_gen.specs.Demo.{order_file}
use Rattle.blink_gen.specs.Generator.{state_after}
use Rattle.blink_gen.proofs.order_list.order_file.Given as goal

abbrev pub invariant-loop-before : goal.invariant-loop-before
invariant-loop-before l = record { written : l.file.items ≡ order_file l.seed l.before; state : l.generator ≡ state_after (8 * l.before) l.seed }
