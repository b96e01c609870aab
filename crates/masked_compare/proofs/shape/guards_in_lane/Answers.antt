use Rattle.masked_compare.proofs.GuardLemmas.{guard_loop}
use Rattle.masked_compare.proofs.shape.guards_in_lane.Goals as goal

pub overflow_add-guards : goal.overflow_add-guards
overflow_add-guards c = record { fits = (guard_loop c.args.widths.now c.loop-width.width-index c.loop-width.guards c.loop-width.place c.from-place.result c.requires c.loop-width-test.true c.loop-width.invariant.0 c.loop-width.invariant.1 c.from-place.ensures).fits }

pub loop-width-preserved : goal.loop-width-preserved
loop-width-preserved c =
    let step = guard_loop c.args.widths.now c.loop-width.width-index c.loop-width.guards c.loop-width.place c.from-place.result c.requires c.loop-width-test.true c.loop-width.invariant.0 c.loop-width.invariant.1 c.from-place.ensures in
    (step.sum, step.next)
