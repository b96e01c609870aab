use Rattle.std.proofs.Common.{◌≡◌, ◌∙◌, ap, is_some, IsTrue}
use Rattle.masked_compare.specs.Fields.{is_shape, lane_bits, lane_holding}
use Rattle.masked_compare.proofs.ShapeLemmas.{kept_good}
use Rattle.masked_compare.proofs.GuardLemmas.{guards_spread, guards_fit, tops_spread}
use Rattle.masked_compare.proofs.shape.Shape.new.Goals as goal

pub overflow_mul-guards : goal.overflow_mul-guards
overflow_mul-guards c =
    let shape : IsTrue (is_shape c.args.widths.now) = c.bits_of.ensures.some.0 (ap is_some c.in_ok-taken.was) in
    let bits : c.lane_holding-bits.result ≡ lane_bits c.args.widths.now = c.lane_holding-bits.ensures ∙ ap lane_holding c.in_ok-taken.ensures.bits in
    record { fits = guards_fit c.args.widths.now c.lane_holding-bits.result c.guards_in_lane.result c.lowest_bits-ones.result shape bits c.guards_in_lane.ensures c.lowest_bits-ones.ensures.value }

pub invariant_of-result : goal.invariant_of-result
invariant_of-result c =
    let shape : IsTrue (is_shape c.args.widths.now) = c.bits_of.ensures.some.0 (ap is_some c.in_ok-taken.was) in
    let bits : c.lane_holding-bits.result ≡ lane_bits c.args.widths.now = c.lane_holding-bits.ensures ∙ ap lane_holding c.in_ok-taken.ensures.bits in
    let guards = guards_spread c.args.widths.now c.lane_holding-bits.result c.guards_in_lane.result c.lowest_bits-ones.result bits c.guards_in_lane.ensures c.lowest_bits-ones.ensures.value in
    let tops = tops_spread c.args.widths.now c.lane_holding-bits.result _ bits c.lowest_bits-ones.ensures.tops in
    let good = kept_good c.args.widths.now c.lane_holding-bits.result _ _ shape bits guards tops in
    rw c.copy_from_slice.ensures.after good
