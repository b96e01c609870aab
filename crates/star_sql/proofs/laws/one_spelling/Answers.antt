use Rattle.star_sql.proofs.StatementLemmas.{spelled_once}
use Rattle.star_sql.proofs.laws.one_spelling.Goals as goal

pub returns : goal.returns
returns c = spelled_once
