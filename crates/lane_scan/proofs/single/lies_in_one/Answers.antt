use Rattle.std.proofs.Common.{arith, ap, sym, ◌*◌, ◌+◌, ◌-◌, ◌<◌}
use Rattle.masked_compare.specs.Fields.{lane_bits, lane_count}
use Rattle.lane_scan.proofs.LaneLemmas.{is_lane, top_within}
use Rattle.lane_scan.proofs.RoundLemmas.{lane_lies}
use Rattle.lane_scan.proofs.single.lies_in_one.Goals as goal

pub returns : goal.returns
returns c =
    lane_lies c.args.shape c.args.rounds.now c.args.word c.args.lane c.outside_every_round_in-outside.result c.bits-bits.result c.requires.bounds c.requires.lane c.outside_every_round_in-outside.ensures c.bits-bits.ensures.value
