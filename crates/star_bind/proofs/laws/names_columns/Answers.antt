use Rattle.star_bind.proofs.ColumnLemmas.{names_columns as the_law}
use Rattle.star_bind.proofs.laws.names_columns.Goals as goal

pub returns : goal.returns
returns c = the_law
