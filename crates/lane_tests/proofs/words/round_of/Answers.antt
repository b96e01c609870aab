use Rattle.lane_tests.proofs.words.round_of.Goals as goal

pub returns : goal.returns
returns c = record {
  clean = (c.spread.ensures.clean, c.spread-2.ensures.clean);
  low = (c.args.lows.now, c.spread.ensures.codes);
  high = (c.args.highs.now, c.spread-2.ensures.codes);
}
