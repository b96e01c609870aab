use Rattle.std.proofs.Common.{◌∙◌, replicate, true}
use Rattle.masked_compare.specs.Fields.{lane_count}
use Rattle.masked_compare.specs.Marks.{tops_where}
use Rattle.masked_compare.proofs.FourLemmas.{four_same}
use Rattle.masked_compare.proofs.RoundLemmas.{tops_all, words_step}
use Rattle.masked_compare.proofs.shape.Shape.outside_every_round.Goals as goal

pub loop-round-init : goal.loop-round-init
loop-round-init c = four_same (λ w. tops_where c.args.self (replicate (lane_count c.args.self) true)) c.tops-all.result (λ w. c.tops-all.ensures.value ∙ tops_all c.args.self) c.args.words c.requires.four

pub loop-round-preserved : goal.loop-round-preserved
loop-round-preserved c = words_step c.args.self c.args.rounds.now _ c.loop-round.round-index c.args.words c.loop-round.all c.outside_four-all.result c.tops-all.ensures.shape c.loop-round-test.true c.loop-round.invariant c.outside_four-all.ensures
