use Rattle.lane_scan.proofs.RoundLemmas.{outside_fit, gathered}
use Rattle.lane_scan.proofs.fours.outside_in_four.Goals as goal

pub tops_of_four-requires-clause-fit : goal.tops_of_four-requires-clause-fit
tops_of_four-requires-clause-fit c = outside_fit c.args.shape c.args.rounds.now c.args.four c.outside_every_round.result c.outside_every_round.ensures

pub returns : goal.returns
returns c = gathered c.args.shape c.args.rounds.now c.args.four c.outside_every_round.result c.bits.result c.tops_of_four.result c.outside_every_round.ensures c.bits.ensures.value c.tops_of_four.ensures
