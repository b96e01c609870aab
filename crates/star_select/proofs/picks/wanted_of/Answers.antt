use Rattle.std.proofs.Common.{arith}
use Rattle.std.proofs.lemmas.Grind.{common_steps}
use Rattle.star_select.proofs.WantedColumnLemmas.{wanted-push}
use Rattle.star_select.proofs.picks.wanted_of.Goals as goal

pub loop-r-preserved : goal.loop-r-preserved
loop-r-preserved c = grind (arith, common_steps, wanted-push)
