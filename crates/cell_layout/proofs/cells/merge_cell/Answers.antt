use Rattle.cell_layout.proofs.MergeCellsLemmas.{room_here, merged_found, merged_missing, found_in, missing_in}
use Rattle.cell_layout.proofs.cells.merge_cell.Goals as goal

pub absorb_at-requires-clause-room : goal.absorb_at-requires-clause-room
absorb_at-requires-clause-room c =
    room_here c.args.cells.now.0 c.in-Ok.at c.args.cell c.requires.alike c.requires.room
    (found_in c.args.cells.now.0 c.as_slice.result.now c.args.cell.classes c.as_slice-2.result.now c.in-Ok.at c.as_slice.ensures c.as_slice-2.ensures c.in-Ok.ensures)

pub returns-in-Ok-clause-merged : goal.returns-in-Ok-clause-merged
returns-in-Ok-clause-merged c =
    merged_found c.args.cells.now.0 c.absorb_at.new.cells.0 c.in-Ok.at c.args.cell c.requires.alike c.requires.order c.requires.few
    (found_in c.args.cells.now.0 c.as_slice.result.now c.args.cell.classes c.as_slice-2.result.now c.in-Ok.at c.as_slice.ensures c.as_slice-2.ensures c.in-Ok.ensures) c.absorb_at.ensures.absorbed

pub returns-in-Err-clause-merged : goal.returns-in-Err-clause-merged
returns-in-Err-clause-merged c =
    merged_missing c.args.cells.now.0 c.put_at.new.self.0 c.in-Err.at c.args.cell c.requires.order
    (missing_in c.args.cells.now.0 c.as_slice.result.now c.args.cell.classes c.as_slice-2.result.now c.in-Err.at c.as_slice.ensures c.as_slice-2.ensures c.in-Err.ensures) c.put_at.ensures.list
