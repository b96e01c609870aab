use Rattle.blink_base.proofs.LineLemmas.{tells_rows as the_law}
use Rattle.blink_base.proofs.laws.rows_are_told_apart.Goals as goal

pub returns : goal.returns
returns c = the_law
