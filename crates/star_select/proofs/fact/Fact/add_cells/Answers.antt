use Rattle.std.proofs.Common.{arith}
use Rattle.star_select.specs.FactRows.{picks_of}
use Rattle.star_select.specs.FactView.{fact_of}
use Rattle.star_select.proofs.FactGroupLemmas.{room-for-cell, cell-taken, cell-decoded}
use Rattle.star_select.proofs.fact.Fact.add_cells.Goals as goal

pub add_cell-requires-clause-room : goal.add_cell-requires-clause-room
add_cell-requires-clause-room g c =
    let test = c.loop-cell-test.true in
    let count = c.cell_count-cell-end.ensures in
    room-for-cell (fact_of c.args.self.now) c.args.into.now c.loop-cell.into _ c.loop-cell.cell (omega (arith, test, count)) c.requires.room c.loop-cell.invariant.taken

pub returns-in_err-add_cell-clause-decodes : goal.returns-in_err-add_cell-clause-decodes
returns-in_err-add_cell-clause-decodes g c =
    let test = c.loop-cell-test.true in
    let count = c.cell_count-cell-end.ensures in
    (cell-decoded (fact_of c.args.self.now) c.loop-cell.cell (picks_of (fact_of c.args.self.now)) c.args.decodes.now c.loop-cell.decodes c.add_cell.new.decodes (omega (arith, test, count)) c.loop-cell.invariant.decodes c.add_cell.ensures.decodes).1

pub loop-cell-preserved : goal.loop-cell-preserved
loop-cell-preserved g c =
    let fact = fact_of c.args.self.now in
    let test = c.loop-cell-test.true in
    let count = c.cell_count-cell-end.ensures in
    record {
      taken = cell-taken fact c.args.into.now c.loop-cell.into c.add_cell.new.into c.loop-cell.cell (omega (arith, test, count)) c.loop-cell.invariant.taken c.in_ok-add_cell.ensures.taken;
      decodes = (cell-decoded fact c.loop-cell.cell (picks_of fact) c.args.decodes.now c.loop-cell.decodes c.add_cell.new.decodes (omega (arith, test, count)) c.loop-cell.invariant.decodes c.add_cell.ensures.decodes).0;
    }
