use Rattle.blink_base.proofs.LineLemmas.{lines_in_any_order as the_law}
use Rattle.blink_base.proofs.laws.lines_in_any_order.Goals as goal

pub returns : goal.returns
returns c = the_law
