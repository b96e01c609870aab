use Rattle.std.proofs.Common.{get_or, refl}
use Rattle.column_classes.proofs.RankedCountLemmas.{number_within, values_more, values_all}
use Rattle.column_classes.proofs.class.values_of.Goals as goal

pub value-requires : goal.value-requires
value-requires c =
    number_within c.args.interner.now c.args.numbers.now c.requires.0 c.requires.1 c.loop-number.number-index (get_or c.args.numbers.now c.loop-number.number-index 0) refl c.loop-number-test.true

pub loop-number-preserved : goal.loop-number-preserved
loop-number-preserved c xs found =
    values_more c.args.interner.now c.args.numbers.now xs c.loop-number.number-index (get_or c.args.numbers.now c.loop-number.number-index 0) c.value.result.now c.in_ok-copy.field-0 c.loop-number.values.items c.push.new.self.items found
    refl c.loop-number-test.true c.value.ensures c.in_ok-copy.ensures (c.loop-number.invariant xs found) c.in_ok-push.ensures.items

pub returns : goal.returns
returns c xs found = values_all c.args.interner.now c.args.numbers.now xs c.loop-number.number-index c.loop-number.values.items found c.loop-number-test.false (c.loop-number.invariant xs found)
