-- The numbers of the statuses. Source: this project's own.
use Rattle.std.specs.Prelude.{ℕ}
use Rattle.blink_run.specs.declared.top_call.status.Status.{Status}
use Rattle.blink_run.specs.declared.top_call.status.Status.TheVariants as status

abbrev pub code_of : Status → ℕ
code_of status.Done = 0
code_of status.Refused = 1
code_of status.Usage = 2
code_of status.ReadFault = 3
code_of status.WriteFault = 4
code_of status.Memory = 5
code_of status.StoreFault = 6
code_of status.Long = 7
