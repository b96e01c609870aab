use Rattle.std.proofs.Common.{[], map, ◌∙◌}
use Rattle.blink_lists.specs.Lists.{joined}
use Rattle.star_bind.specs.CappedCounts.{add_once}
use Rattle.star_bind.proofs.CappedCountLemmas.{next_columns, all_columns}
use Rattle.star_bind.proofs.conditions.columns.columns_in.Goals as goal

pub loop-part-preserved : goal.loop-part-preserved
loop-part-preserved g c =
    next_columns g.P.HasColumns.names c.loop-part.all c.add_columns.new.all (add_once [] (joined (map g.P.HasColumns.names c.args.parts.now))) c.as_slice.result.now c.args.parts.now c.loop-part.part-index c.part-item.result
    c.loop-part-test.true c.part-item.is (c.as_slice.ensures ∙ c.columns-columns.ensures) c.in_ok-add_columns.ensures c.loop-part.invariant

pub returns : goal.returns
returns g c = all_columns g.P.HasColumns.names c.loop-part.all c.args.parts.now c.loop-part.part-index c.loop-part-test.false c.loop-part.invariant
