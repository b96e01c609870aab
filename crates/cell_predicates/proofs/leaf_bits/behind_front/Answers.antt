use Rattle.std.proofs.Common.{◌∙◌}
use Rattle.cell_predicates.proofs.PrefixLemmas.{letters_more}
use Rattle.cell_predicates.proofs.leaf_bits.behind_front.Goals as goal

pub loop-letter-preserved : goal.loop-letter-preserved
loop-letter-preserved c = c.in_ok-push.ensures.ok ∙ letters_more c.args.front.now c.loop-letter.word c.loop-letter._letter c.loop-letter.invariant
