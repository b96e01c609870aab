use Rattle.star_select.proofs.DecodeLemmas.{decodes_add_up}
use Rattle.star_select.proofs.laws.decodes_add_up.Goals as goal

pub returns : goal.returns
returns c = decodes_add_up c.queries_have_shape.ensures c.selects_by_codes.ensures c.fact_named.ensures
