use Rattle.lane_scan.proofs.DigitLemmas.{tops_eight}
use Rattle.lane_scan.proofs.tops.tops_of_eight.Goals as goal

pub returns : goal.returns
returns c = tops_eight c.args.words c.requires.four c.requires.fit
