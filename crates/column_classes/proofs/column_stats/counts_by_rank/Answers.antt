use Rattle.std.proofs.Common.{get_or, refl}
use Rattle.blink_lists.specs.Lists.{in_order}
use Rattle.blink_histogram.specs.Ranks.{rank_cmp}
use Rattle.column_classes.proofs.RankedCountLemmas.{number_within, counts_more, counts_all}
use Rattle.column_classes.proofs.column_stats.counts_by_rank.Goals as goal

pub count-requires : goal.count-requires
count-requires c =
    number_within c.args.interner.now c.args.numbers.now (in_order rank_cmp c.args.interner.now) c.requires c.loop-number.number-index (get_or c.args.numbers.now c.loop-number.number-index 0) refl c.loop-number-test.true

pub loop-number-preserved : goal.loop-number-preserved
loop-number-preserved c =
    counts_more c.args.interner.now c.args.numbers.now (in_order rank_cmp c.args.interner.now) c.requires c.loop-number.number-index (get_or c.args.numbers.now c.loop-number.number-index 0) c.count.result c.loop-number.counts.items
    c.push.new.self.items refl c.loop-number-test.true c.count.ensures c.loop-number.invariant c.in_ok-push.ensures.items

pub returns : goal.returns
returns c = counts_all c.args.interner.now c.args.numbers.now (in_order rank_cmp c.args.interner.now) c.loop-number.number-index c.loop-number.counts.items c.requires c.loop-number-test.false c.loop-number.invariant
