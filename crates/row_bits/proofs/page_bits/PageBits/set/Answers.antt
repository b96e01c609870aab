use Rattle.row_bits.proofs.PageLemmas.{page_put}
use Rattle.row_bits.proofs.page_bits.PageBits.set.Goals as goal

pub returns : goal.returns
returns c = page_put c.self.inside.words c.put.new.words c.args.self.now c.args.place c.args.value c.self.view_is c.requires c.put.ensures.here c.put.ensures.others
