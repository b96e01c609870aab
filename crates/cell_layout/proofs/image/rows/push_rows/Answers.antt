use Rattle.cell_layout.proofs.CellRowLemmas.{row_pushed, rows_pushed}
use Rattle.cell_layout.proofs.image.rows.push_rows.Goals as goal

pub loop-row-preserved : goal.loop-row-preserved
loop-row-preserved g c =
    row_pushed c.args.dicts.now c.args.cell.now c.loop-row.row c.in_ok-decoded.field-0 c.args.rows.now.items c.loop-row.rows.items c.push.new.self.items c.loop-row-test.true c.in_ok-decoded.ensures.row c.loop-row.invariant c.in_ok-push.ensures.items

pub returns : goal.returns
returns g c = rows_pushed c.args.dicts.now c.args.cell.now c.loop-row.row c.args.rows.now.items c.loop-row.rows.items c.loop-row-test.false c.loop-row.invariant
