use Rattle.std.proofs.Common.{◌≡◌, ◌*◌, take, flat_map}
use Rattle.std.specs.Simd.Lanes.{mask_l}
use Rattle.masked_compare.specs.Fields.{lane_count}
use Rattle.masked_compare.specs.Rounds.{outside_rounds}
use Rattle.lane_scan.proofs.fours.outside_in.Given as goal

abbrev pub invariant-loop-four : goal.invariant-loop-four
invariant-loop-four l = (l.outside ≡ mask_l (flat_map (outside_rounds l.shape l.rounds) (take (l.four-index * 4) l.words))) × (l.place ≡ l.four-index * 4 * lane_count l.shape)
