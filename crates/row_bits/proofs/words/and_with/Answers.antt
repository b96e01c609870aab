use Rattle.std.proofs.Common.{arith, refl, ◌*◌, ◌&&◌}
use Rattle.row_bits.proofs.WordLemmas.{and_more, joined_all}
use Rattle.row_bits.proofs.words.and_with.Goals as goal

pub loop-at-preserved : goal.loop-at-preserved
loop-at-preserved c = and_more c.args.words.now c.args.other.now c.loop-at.words c.loop-at.at (omega arith) c.loop-at.invariant

pub returns : goal.returns
returns c = joined_all (λ a b. a && b) c.args.words.now c.args.other.now c.loop-at.words (c.loop-at.at * 64) refl (omega arith) c.requires c.loop-at.invariant
