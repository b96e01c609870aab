use Rattle.std.proofs.Common.{sum, ap, ◌∙◌, arith}
use Rattle.blink_lists.specs.Lists.{in_order}
use Rattle.blink_histogram.specs.Ranks.{rank_cmp}
use Rattle.freq_partition.specs.Division.{never_rises}
use Rattle.column_classes.specs.ColumnClasses.{counts_of}
use Rattle.column_classes.proofs.RankedCountLemmas.{counted_positive, ranked_never_rise, ranked_sum}
use Rattle.column_classes.proofs.column_stats.RankedColumn.of.Goals as goal

pub cut-requires-clause-positive : goal.cut-requires-clause-positive
cut-requires-clause-positive c =
    counted_positive c.args.column c.as_slice-2.result.now (c.as_slice-2.ensures.value ∙ c.in_ok-counts.ensures ∙ ap (λ it. counts_of (in_order rank_cmp it)) c.interner-interner.ensures.counted)

pub cut-requires-clause-ranked : goal.cut-requires-clause-ranked
cut-requires-clause-ranked c = ap never_rises (c.as_slice-2.ensures.value ∙ c.in_ok-counts.ensures) ∙ ranked_never_rise c.interner-interner.result.now

pub cut-requires-clause-few : goal.cut-requires-clause-few
cut-requires-clause-few c =
    let all = ap sum (c.as_slice-2.ensures.value ∙ c.in_ok-counts.ensures) ∙ ranked_sum c.interner-interner.result.now in
    let few = c.requires in
    let many = c.interner-interner.ensures.many in
    omega arith

pub single-requires : goal.single-requires
single-requires c =
    let all = ap sum (c.as_slice-3.ensures.value ∙ c.in_ok-counts.ensures) ∙ ranked_sum c.interner-interner.result.now in
    let few = c.requires in
    let many = c.interner-interner.ensures.many in
    omega arith
