use Rattle.std.proofs.Common.{◌++◌, length, take, sym, subst, arith}
use Rattle.std.proofs.lemmas.List.{length-append, length-take-le, take_all}
use Rattle.column_classes.specs.ColumnStats.{AreColumns}
use Rattle.column_classes.proofs.ColumnStatsLemmas.{columns_more}
use Rattle.column_classes.proofs.column.number_rows.Goals as goal

pub number_row-requires-clause-few : goal.number_row-requires-clause-few
number_row-requires-clause-few c =
    let before = c.requires.few.0 in
    let few = c.requires.few.1 in
    let at = c.loop-row.row-index in
    let short = length-take-le at c.args.rows.now c.loop-row.auto.row-index-end in
    let long = length-append before (take at c.args.rows.now) in
    let test = c.loop-row-test.true in
    (before ++ take at c.args.rows.now, omega arith, subst (λ n. AreColumns (before ++ take at c.args.rows.now) n c.loop-row.columns) (sym c.loop-row.auto.columns) (c.loop-row.invariant before c.requires.few.2))

pub loop-row-preserved : goal.loop-row-preserved
loop-row-preserved c = λ before are.
    let rows = c.args.rows.now in
    let at = c.loop-row.row-index in
    let here = subst (λ n. AreColumns (before ++ take at rows) n c.loop-row.columns) (sym c.loop-row.auto.columns) (c.loop-row.invariant before are) in
    columns_more before rows at (length c.args.columns.now) (length c.loop-row.columns) c.as_slice.result.now c.row-item.result c.number_row.new.columns c.loop-row-test.true c.row-item.is c.as_slice.ensures c.loop-row.auto.columns
    (c.in_ok-number_row.ensures (before ++ take at rows) here)

pub returns : goal.returns
returns c = λ before are.
    subst (λ l. AreColumns (before ++ l) (length c.args.columns.now) c.loop-row.columns) (take_all c.loop-row.row-index c.args.rows.now c.loop-row-test.false) (c.loop-row.invariant before are)
