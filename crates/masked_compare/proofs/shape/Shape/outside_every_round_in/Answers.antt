use Rattle.std.proofs.Common.{◌∙◌}
use Rattle.masked_compare.proofs.RoundLemmas.{tops_all, word_step}
use Rattle.masked_compare.proofs.shape.Shape.outside_every_round_in.Goals as goal

pub loop-round-init : goal.loop-round-init
loop-round-init c = c.tops-all.ensures.value ∙ tops_all c.args.self

pub loop-round-preserved : goal.loop-round-preserved
loop-round-preserved c = word_step c.args.self c.args.rounds.now _ c.loop-round.round-index c.loop-round.all c.outside-all.result c.args.word c.tops-all.ensures.shape c.loop-round-test.true c.loop-round.invariant c.outside-all.ensures
