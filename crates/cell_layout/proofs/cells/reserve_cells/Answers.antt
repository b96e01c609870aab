use Rattle.std.proofs.Common.{arith, refl}
use Rattle.cell_layout.proofs.CellRoomLemmas.{order_same, cells_twice, reserved_more, reserved_all}
use Rattle.cell_layout.proofs.cells.reserve_cells.Goals as goal

pub reserve_for-requires : goal.reserve_for-requires
reserve_for-requires c = order_same c.args.cells.now.0 c.loop-cell.cells.0 c.loop-cell.invariant.roomier c.requires

pub loop-cell-preserved : goal.loop-cell-preserved
loop-cell-preserved c = record {
  roomier = cells_twice c.args.cells.now.0 c.loop-cell.cells.0 c.reserve_for.new.cells.0 c.loop-cell.invariant.roomier c.reserve_for.ensures.same;
  room = reserved_more c.loop-cell.cells.0 c.reserve_for.new.cells.0 c.args.more.now c.loop-cell.cell-index c.cell-item.result c.as_slice.result.now c.cell-item.result.rows c.reserve_for.ensures.same c.loop-cell.invariant.room
      c.cell-item.is c.loop-cell-test.true c.as_slice.ensures refl c.in_ok-reserve_for.ensures.room;
}

pub returns-clause-room : goal.returns-clause-room
returns-clause-room c = reserved_all c.loop-cell.cells.0 c.args.more.now c.loop-cell.cell-index c.loop-cell.invariant.room (omega arith)
