use Rattle.std.proofs.Common.{ap, take, length, arith}
use Rattle.blink_histogram.specs.Ranks.{ranked}
use Rattle.column_classes.proofs.DividedColumnLemmas.{few_sizes, numbers_few, sizes_best, sizes_within}
use Rattle.column_classes.proofs.column_stats.RankedColumn.classes.Goals as goal

pub shared_ref_as_front-sizes : goal.shared_ref_as_front-sizes
shared_ref_as_front-sizes c =
    let few = few_sizes c.args.self.now (ranked c.requires.0) c.requires.2 in
    let same = c.from.ensures in
    omega arith

pub classes_in-requires-clause-sizes : goal.classes_in-requires-clause-sizes
classes_in-requires-clause-sizes c =
    let column = ranked c.requires.0 in
    rw (c.from.ensures, c.as_slice-numbers.ensures) (sizes_within c.args.self.now (ranked c.requires.0) c.args.divided (take c.args.self.now.cut.count c.args.self.now.cut.sizes) c.requires.2 (rw c.if-divided.true (sizes_best c.args.self.now (ranked c.requires.0) c.requires.2)))

pub overflow_cast-numbers : goal.overflow_cast-numbers
overflow_cast-numbers c =
    let few = numbers_few c.args.self.now c.requires in
    let same = ap length c.as_slice-numbers.ensures in
    omega arith
