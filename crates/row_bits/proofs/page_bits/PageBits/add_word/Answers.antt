use Rattle.std.proofs.Common.{arith}
use Rattle.row_bits.proofs.PageLemmas.{added_here, added_elsewhere}
use Rattle.row_bits.proofs.page_bits.PageBits.add_word.Goals as goal

pub returns-clause-here : goal.returns-clause-here
returns-clause-here c = added_here c.self.inside.words c.args.self.now c.args.at c.args.truths c.self.view_is (omega arith) c.requires

pub returns-clause-others : goal.returns-clause-others
returns-clause-others c = added_elsewhere c.self.inside.words c.args.self.now c.args.at c.args.truths c.self.view_is (omega arith) c.requires
