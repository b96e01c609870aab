use Rattle.row_bits.proofs.PageLemmas.{first_filled}
use Rattle.row_bits.proofs.page_bits.PageBits.first.Goals as goal

pub returns : goal.returns
returns c = first_filled c.args.rows c.fill.new.words c.requires c.fill.ensures.inside c.fill.ensures.above
