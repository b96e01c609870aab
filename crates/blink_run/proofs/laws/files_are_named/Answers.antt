use Rattle.blink_run.proofs.ScriptLemmas.{files_are_named}
use Rattle.blink_run.proofs.laws.files_are_named.Goals as goal

pub returns : goal.returns
returns c = files_are_named
