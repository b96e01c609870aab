use Rattle.star_sql.proofs.DepthLemmas.{by_prefixes}
use Rattle.star_sql.proofs.laws.depth_by_prefixes.Goals as goal

pub returns : goal.returns
returns c = by_prefixes
