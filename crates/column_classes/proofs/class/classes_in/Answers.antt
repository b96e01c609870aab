use Rattle.std.proofs.Common.{get_or, take, drop}
use Rattle.column_classes.proofs.RankedPieceLemmas.{front_found, back_found, sums_left, classes_more}
use Rattle.column_classes.proofs.class.classes_in.Goals as goal

pub class_of-requires : goal.class_of-requires
class_of-requires c =
    let size = get_or c.args.sizes.now c.loop-size.size-index 0 in
    let has = c.loop-size.invariant.found in (
      take (get_or c.args.sizes.now c.loop-size.size-index 0) has.0,
      front_found c.args.interner.now c.loop-size.rest.now has.0 (get_or c.args.sizes.now c.loop-size.size-index 0) has.1 c.split_at.result.0.now c.split_at.ensures.front,
    )

pub loop-size-preserved : goal.loop-size-preserved
loop-size-preserved c =
    let has = c.loop-size.invariant.found in
    record {
      sums = sums_left c.args.sizes.now c.loop-size.rest.now c.split_at.result.1.now c.loop-size.size-index c.loop-size-test.true c.loop-size.invariant.sums c.split_at.ensures.back;
      found = (
        drop (get_or c.args.sizes.now c.loop-size.size-index 0) has.0,
        back_found c.args.interner.now c.loop-size.rest.now has.0 (get_or c.args.sizes.now c.loop-size.size-index 0) has.1 c.split_at.result.1.now c.split_at.ensures.back,
      );
      done = λ values start.
          let before = c.loop-size.invariant.done values start in (
            drop (get_or c.args.sizes.now c.loop-size.size-index 0) before.0,
            back_found c.args.interner.now c.loop-size.rest.now before.0 (get_or c.args.sizes.now c.loop-size.size-index 0) before.1 c.split_at.result.1.now c.split_at.ensures.back,
            classes_more c.args.sizes.now values before.0 c.loop-size.classes c.push.new.self c.in_ok-class_of.field-0 c.loop-size.size-index c.loop-size-test.true before.2
                (c.in_ok-class_of.ensures (take (get_or c.args.sizes.now c.loop-size.size-index 0) before.0)
                (front_found c.args.interner.now c.loop-size.rest.now before.0 (get_or c.args.sizes.now c.loop-size.size-index 0) before.1 c.split_at.result.0.now c.split_at.ensures.front))
                c.in_ok-push.ensures.ok,
          );
    }
