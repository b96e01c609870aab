use Rattle.lane_scan.proofs.DigitLemmas.{tops_sixteen}
use Rattle.lane_scan.proofs.tops.tops_of_sixteen.Goals as goal

pub returns : goal.returns
returns c = tops_sixteen c.args.words c.requires.four c.requires.fit
