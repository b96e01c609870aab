use Rattle.cell_layout.proofs.RowPartitionLemmas.{found_placed, missing_placed}
use Rattle.cell_layout.proofs.cells.put_row.Goals as goal

pub returns-in_ok-push_at-in-Ok : goal.returns-in_ok-push_at-in-Ok
returns-in_ok-push_at-in-Ok g c =
    found_placed c.args.dicts.now c.args.cells.now.0 c.as_slice.result.now c.push_at.new.cells.0 c.in-Ok.at c.args.row.now.classes.items c.as_slice-2.result.now c.args.row.now.codes.items c.as_slice-in-Ok.result.now
    c.requires.repr c.requires.order c.requires.few c.requires.within c.as_slice.ensures c.as_slice-2.ensures.value c.as_slice-in-Ok.ensures.value c.in-Ok.ensures c.in_ok-push_at-in-Ok.ensures

pub returns-in_ok-reserve-in-Err : goal.returns-in_ok-reserve-in-Err
returns-in_ok-reserve-in-Err g c =
    missing_placed c.args.dicts.now c.args.cells.now.0 c.as_slice.result.now c.reserve.new.self.0 c.put_at.new.self.0 c.in-Err.at c.in_ok-cell-in-Err.cell c.args.row.now.classes.items c.as_slice-2.result.now c.args.row.now.codes.items
    c.requires.repr c.requires.within c.as_slice.ensures c.as_slice-2.ensures.value c.in-Err.ensures c.in_ok-cell-in-Err.ensures c.in_ok-reserve-in-Err.ensures.list c.put_at.ensures.list
