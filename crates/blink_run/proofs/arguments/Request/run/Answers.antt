use Rattle.std.proofs.Common.{map, string_bytes}
use Rattle.blink_run.proofs.OptionLemmas.{options_allowed}
use Rattle.blink_run.proofs.arguments.Request.run.Goals as goal

pub returns-in-Some-clause-allowed : goal.returns-in-Some-clause-allowed
returns-in-Some-clause-allowed c = options_allowed (map string_bytes c.args.options.now) c.in-Some.limits c.in-Some.ensures
