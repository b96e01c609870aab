use Rattle.std.proofs.Common.{◌∙◌, sym, ap, ◌||◌, get_or, false}
use Rattle.row_bits.proofs.PageLemmas.{true_here, true_elsewhere}
use Rattle.row_bits.proofs.WordLemmas.{or_none}
use Rattle.row_bits.proofs.page_bits.PageBits.add.Goals as goal

pub returns-then-value-clause-here : goal.returns-then-value-clause-here
returns-then-value-clause-here c = true_here c.self.inside.words c.put.new.words c.args.self.now c.args.place c.self.view_is c.args.value c.if-value.true c.requires c.put.ensures.here

pub returns-then-value-clause-others : goal.returns-then-value-clause-others
returns-then-value-clause-others c = true_elsewhere c.self.inside.words c.put.new.words c.args.self.now c.args.place c.self.view_is c.put.ensures.others

pub returns-else-value-clause-here : goal.returns-else-value-clause-here
returns-else-value-clause-here c = sym (ap (λ b. get_or c.args.self.now c.args.place false || b) c.if-value.false ∙ or_none (get_or c.args.self.now c.args.place false))
