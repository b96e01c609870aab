use Rattle.std.proofs.Common.{arith}
use Rattle.row_bits.proofs.WordLemmas.{filled_more}
use Rattle.row_bits.proofs.words.fill.Goals as goal

pub loop-at-preserved : goal.loop-at-preserved
loop-at-preserved c =
    filled_more c.args.words.now c.loop-at.words c.args.low c.args.high c.loop-at.at c.mask.result c.saturating_sub.result c.min.result (omega arith) c.saturating_sub.ensures c.min.ensures c.mask.ensures c.loop-at.invariant
