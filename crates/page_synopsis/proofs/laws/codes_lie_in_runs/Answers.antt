use Rattle.page_synopsis.proofs.RunLemmas.{codes_lie_in_runs as the_law}
use Rattle.page_synopsis.proofs.laws.codes_lie_in_runs.Goals as goal

pub returns : goal.returns
returns c = the_law
