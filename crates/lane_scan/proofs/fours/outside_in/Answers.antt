use Rattle.std.proofs.Common.{ℕ, arith, sym, ap, refl, ◌∙◌, ◌≡◌, ◌≤◌, ◌<◌, ◌+◌, ◌*◌, ◌/◌, length}
use Rattle.masked_compare.specs.Fields.{lane_bits, lane_count}
use Rattle.masked_compare.specs.Words.{IsClean}
use Rattle.masked_compare.specs.Rounds.{outside_rounds}
use Rattle.lane_scan.proofs.FourLemmas.{four_is, four_within, four_long, four_fits, four_each, mask_more, place_more, all_fours}
use Rattle.lane_scan.proofs.LaneLemmas.{is_lane, lane_fact, fours_room}
use Rattle.lane_scan.proofs.RoundLemmas.{length_outside}
use Rattle.lane_scan.proofs.fours.outside_in.Goals as goal

pub outside_in_four-requires-clause-four : goal.outside_in_four-requires-clause-four
outside_in_four-requires-clause-four c = four_long c.args.words.now c.as_chunks.result.0.now c.loop-four.four-index c.as_chunks.ensures.front c.as_chunks.ensures.front_len c.loop-four-test.true

pub outside_in_four-requires-clause-fit : goal.outside_in_four-requires-clause-fit
outside_in_four-requires-clause-fit c =
    four_fits c.args.words.now c.as_chunks.result.0.now c.loop-four.four-index c.as_chunks.ensures.front c.as_chunks.ensures.front_len c.loop-four-test.true c.type_inv.words

pub outside_in_four-requires-clause-clean : goal.outside_in_four-requires-clause-clean
outside_in_four-requires-clause-clean c =
    four_each c.args.words.now c.as_chunks.result.0.now c.loop-four.four-index c.as_chunks.ensures.front c.as_chunks.ensures.front_len c.loop-four-test.true (IsClean c.args.shape) c.requires.clean

within : (fours index len : ℕ) → fours ≡ len / 4 → index < fours → index * 4 + 4 ≤ len
within fours index len many lt = omega (arith, many, lt)

pub overflow_mul-place : goal.overflow_mul-place
overflow_mul-place c = omega (arith, c.lanes-lanes.ensures, (lane_fact (lane_bits c.args.shape) (lane_count c.args.shape) (is_lane c.args.shape)).most)

pub overflow_add-place : goal.overflow_add-place
overflow_add-place c =
    let le = within (length c.as_chunks.result.0.now) c.loop-four.four-index (length c.args.words.now) c.as_chunks.ensures.front_len c.loop-four-test.true in
    let room = fours_room (lane_bits c.args.shape) (lane_count c.args.shape) (is_lane c.args.shape) c.loop-four.four-index (length c.args.words.now) c.requires.few le in
    omega (arith, c.lanes-lanes.ensures, c.loop-four.invariant.1, room)

pub overflow_shl-outside : goal.overflow_shl-outside
overflow_shl-outside c =
    let le = within (length c.as_chunks.result.0.now) c.loop-four.four-index (length c.args.words.now) c.as_chunks.ensures.front_len c.loop-four-test.true in
    let room = fours_room (lane_bits c.args.shape) (lane_count c.args.shape) (is_lane c.args.shape) c.loop-four.four-index (length c.args.words.now) c.requires.few le in
    let some = (lane_fact (lane_bits c.args.shape) (lane_count c.args.shape) (is_lane c.args.shape)).lanes in
    omega (arith, c.loop-four.invariant.1, room, some)

pub loop-four-init : goal.loop-four-init
loop-four-init c = (refl, omega arith)

pub loop-four-preserved : goal.loop-four-preserved
loop-four-preserved c =
    let words = c.args.words.now in
    let fours = c.as_chunks.result.0.now in
    let i = c.loop-four.four-index in
    let n = lane_count c.args.shape in
    let le = within (length fours) i (length words) c.as_chunks.ensures.front_len c.loop-four-test.true in
    let room = fours_room (lane_bits c.args.shape) n (is_lane c.args.shape) i (length words) c.requires.few le in
    let is = four_is words fours i c.as_chunks.ensures.front c.as_chunks.ensures.front_len c.loop-four-test.true in (
      mask_more (outside_rounds c.args.shape c.args.rounds.now) n (length_outside c.args.shape c.args.rounds.now) words i le _ c.loop-four.outside c.outside_in_four.result c.loop-four.place c.loop-four.invariant.0 c.loop-four.invariant.1 c.outside_in_four.ensures is room,
      place_more i n c.loop-four.place c.lanes-lanes.result c.loop-four.invariant.1 c.lanes-lanes.ensures,
    )

pub returns : goal.returns
returns c =
    c.loop-four.invariant.0
    ∙ all_fours (outside_rounds c.args.shape c.args.rounds.now) c.args.words.now c.loop-four.four-index c.requires.fours (omega (arith, c.loop-four-test.false, c.as_chunks.ensures.front_len))
