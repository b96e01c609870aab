use Rattle.std.proofs.Common.{◌≡◌, take}
use Rattle.blink_lists.specs.Lists.{in_order}
use Rattle.blink_histogram.specs.Ranks.{rank_cmp}
use Rattle.column_classes.specs.ColumnClasses.{counts_of}
use Rattle.column_classes.proofs.column_stats.counts_by_rank.Given as goal

abbrev pub invariant-loop-number : goal.invariant-loop-number
invariant-loop-number l = l.counts.items ≡ take l.number-index (counts_of (in_order rank_cmp l.interner))
