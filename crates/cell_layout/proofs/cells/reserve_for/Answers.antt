use Rattle.std.proofs.Common.{subst}
use Rattle.cell_layout.specs.CellIndex.{IsMissing}
use Rattle.cell_layout.proofs.CellRoomLemmas.{found_reserved, missing_room}
use Rattle.cell_layout.proofs.cells.reserve_for.Goals as goal

pub returns-in-Ok-clause-room : goal.returns-in-Ok-clause-room
returns-in-Ok-clause-room c =
    found_reserved c.args.cells.now.0 c.as_slice.result.now c.reserve_at.new.cells.0 c.in-Ok.at c.args.classes.now c.args.rows c.reserve_at.result c.requires c.as_slice.ensures c.in-Ok.ensures
    c.reserve_at.ensures.count c.reserve_at.ensures.others c.reserve_at.ensures.here c.reserve_at.ensures.room

pub returns-in-Err-clause-room : goal.returns-in-Err-clause-room
returns-in-Err-clause-room c =
    missing_room c.args.cells.now.0 c.in-Err.field-0 c.args.classes.now c.args.rows (subst (λ l. IsMissing l c.args.classes.now c.in-Err.field-0) c.as_slice.ensures c.in-Err.ensures)
