use Rattle.std.proofs.Common.{refl}
use Rattle.cell_layout.proofs.CellRoomLemmas.{same_but_room}
use Rattle.cell_layout.proofs.cells.make_room.Goals as goal

pub returns-in_err-reserve_cells-clause-same : goal.returns-in_err-reserve_cells-clause-same
returns-in_err-reserve_cells-clause-same c = same_but_room c.args.cells.now.0 c.reserve_cells.new.cells.0 c.reserve_cells.new.cells.0 c.args.rest.now.0 c.args.rest.now.0 c.reserve_cells.ensures.same refl refl

pub returns-in_err-reserve-clause-same : goal.returns-in_err-reserve-clause-same
returns-in_err-reserve-clause-same c = same_but_room c.args.cells.now.0 c.reserve_cells.new.cells.0 c.reserve.new.self.0 c.args.rest.now.0 c.args.rest.now.0 c.reserve_cells.ensures.same c.reserve.ensures.list refl

pub returns-clause-same : goal.returns-clause-same
returns-clause-same c = same_but_room c.args.cells.now.0 c.reserve_cells.new.cells.0 c.reserve.new.self.0 c.args.rest.now.0 c.reserve-2.new.self.0 c.reserve_cells.ensures.same c.reserve.ensures.list c.reserve-2.ensures.list
