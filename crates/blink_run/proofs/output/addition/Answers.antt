use Rattle.report_text.specs.Texts.{added_bytes}
use Rattle.blink_run.proofs.output.addition.Goals as goal

pub returns-in-Ok : goal.returns-in-Ok
returns-in-Ok c = rw c.in-Ok.is (c.done.ensures (added_bytes c.in-Ok.count) c.added_text.ensures)
