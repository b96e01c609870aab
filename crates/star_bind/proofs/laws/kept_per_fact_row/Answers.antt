use Rattle.star_bind.proofs.FactRowLemmas.{kept_per_fact_row as the_law}
use Rattle.star_bind.proofs.laws.kept_per_fact_row.Goals as goal

pub returns : goal.returns
returns c = the_law
