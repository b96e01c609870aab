use Rattle.std.proofs.Common.{string_bytes}
use Rattle.blink_run.proofs.DemoLemmas.{demo-none}
use Rattle.blink_run.proofs.arguments.Request.demonstration.Goals as goal

pub returns-then-args-ne2-clause-asked : goal.returns-then-args-ne2-clause-asked
returns-then-args-ne2-clause-asked c = demo-none string_bytes c.args.args.now c.if-args-ne2.true
