use Rattle.std.proofs.Common.{ℕ, ◌<◌, ◌^◌, sym, subst, length, arith, refl, List}
use Rattle.masked_compare.specs.Fields.{lane_bits}
use Rattle.masked_compare.proofs.FieldLemmas.{lane_fits}
use Rattle.masked_compare.proofs.WordLemmas.{lane_below}
use Rattle.masked_compare.proofs.RowLemmas.{row_length, lane_loop, lane_end}
use Rattle.masked_compare.proofs.shape.Shape.lane.Goals as goal

pub bounds-values-at : goal.bounds-values-at
bounds-values-at c =
    let at : c.loop-at.at < length c.args.self = subst (λ (ws : List ℕ). c.loop-at.at < length ws) c.widths-widths.ensures.value c.loop-at-test.true in
    omega (arith, at, row_length c.args.self c.args.values.now c.requires)

pub overflow_add-lane : goal.overflow_add-lane
overflow_add-lane c = record { fits = (lane_loop c.args.self c.widths-widths.result.now c.args.values.now c.loop-at.at c.loop-at.lane c.loop-at.place c.from.result _ c.widths-widths.ensures.value c.widths-widths.ensures.shape c.requires c.loop-at-test.true c.loop-at.invariant.0 c.loop-at.invariant.1 c.from.ensures refl).fits }

pub loop-at-preserved : goal.loop-at-preserved
loop-at-preserved c =
    let step = lane_loop c.args.self c.widths-widths.result.now c.args.values.now c.loop-at.at c.loop-at.lane c.loop-at.place c.from.result c.from-in-loop-at.result c.widths-widths.ensures.value c.widths-widths.ensures.shape c.requires c.loop-at-test.true c.loop-at.invariant.0 c.loop-at.invariant.1 c.from.ensures c.from-in-loop-at.ensures in
    (step.sum, step.next)

pub returns-clause-value : goal.returns-clause-value
returns-clause-value c = lane_end c.args.self c.widths-widths.result.now c.args.values.now c.loop-at.at c.loop-at.lane c.widths-widths.ensures.value c.requires (omega arith) c.loop-at.invariant.0

pub returns-clause-small : goal.returns-clause-small
returns-clause-small c = subst (λ (n : ℕ). n < 2 ^ lane_bits c.args.self) (sym (returns-clause-value c)) (lane_below c.args.self c.args.values.now (lane_bits c.args.self) (lane_fits c.args.self c.widths-widths.ensures.shape) c.requires)
