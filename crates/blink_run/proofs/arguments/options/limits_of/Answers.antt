use Rattle.std.proofs.Common.{sym, string_bytes, arith}
use Rattle.blink_run.proofs.RequestLemmas.{limits_of-none}
use Rattle.blink_run.proofs.arguments.options.limits_of.Goals as goal

pub returns-in_default : goal.returns-in_default
returns-in_default c = sym (limits_of-none string_bytes c.args.args.now (omega arith) (omega arith) (omega arith))

pub returns-in_default-2 : goal.returns-in_default-2
returns-in_default-2 c = sym (limits_of-none string_bytes c.args.args.now (omega arith) (omega arith) (omega arith))

pub returns-in_default-3 : goal.returns-in_default-3
returns-in_default-3 c = sym (limits_of-none string_bytes c.args.args.now (omega arith) (omega arith) (omega arith))
