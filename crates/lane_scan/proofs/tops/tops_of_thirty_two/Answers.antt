use Rattle.lane_scan.proofs.DigitLemmas.{tops_thirty_two}
use Rattle.lane_scan.proofs.tops.tops_of_thirty_two.Goals as goal

pub returns : goal.returns
returns c = tops_thirty_two c.args.words c.requires.four c.requires.fit
