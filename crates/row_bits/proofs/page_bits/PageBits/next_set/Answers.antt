use Rattle.std.proofs.Common.{arith}
use Rattle.row_bits.proofs.PageLemmas.{told_place, told_least, told_none}
use Rattle.row_bits.proofs.page_bits.PageBits.next_set.Goals as goal

pub returns-clause-place : goal.returns-clause-place
returns-clause-place c = told_place c.self.inside.words c.args.self.now (omega arith) c.self.view_is c.args.from c.next_set.result c.next_set.ensures.place

pub returns-clause-least : goal.returns-clause-least
returns-clause-least c = told_least c.self.inside.words c.args.self.now (omega arith) c.self.view_is c.args.from c.next_set.result c.next_set.ensures.least

pub returns-clause-none : goal.returns-clause-none
returns-clause-none c = told_none c.self.inside.words c.args.self.now (omega arith) c.self.view_is c.args.from c.next_set.result c.next_set.ensures.none
