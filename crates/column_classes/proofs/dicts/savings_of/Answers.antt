use Rattle.std.proofs.Common.{map, ap, ◌∙◌}
use Rattle.std.proofs.lemmas.List.{take_all}
use Rattle.column_classes.specs.declared.column_stats.RankedColumn.{RankedColumn}
use Rattle.column_classes.proofs.ColumnStatsLemmas.{savings_ranked}
use Rattle.column_classes.proofs.dicts.savings_of.Goals as goal

pub returns : goal.returns
returns c rows n are =
    c.loop-column.invariant ∙ ap (map (λ (it : RankedColumn). it.saving)) (take_all c.loop-column.column-index c.args.columns.now c.loop-column-test.false) ∙ savings_ranked rows n c.args.columns.now are
