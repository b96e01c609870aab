use Rattle.std.proofs.Common.{◌≡◌, ◌∷◌, length, ap, subst, arith}
use Rattle.std.specs.Vec.Iter.{into_iter_items}
use Rattle.cell_layout.specs.MergeCells.{AreMerged}
use Rattle.cell_layout.proofs.MergeCellsLemmas.{merged_more, first_room}
use Rattle.cell_layout.proofs.cells.merge.Goals as goal

pub merge_cell-requires-clause-room : goal.merge_cell-requires-clause-room
merge_cell-requires-clause-room c =
    first_room c.args.cells.now.0 (into_iter_items c.into_iter-cell-iterator.result) c.loop-cell.cells.0 (into_iter_items c.loop-cell.cell-iterator) (into_iter_items c.next.new.self) c.in-Some.cell
    c.loop-cell.invariant.merged c.in-Some.ensures.steps.0

pub loop-cell-preserved : goal.loop-cell-preserved
loop-cell-preserved c =
    let at = c.loop-cell in
    let steps : into_iter_items at.cell-iterator ≡ c.in-Some.cell ∷ into_iter_items c.next.new.self = c.in-Some.ensures.steps.0 in
    let gone = c.in-Some.ensures.steps.1 in
    let short = ap length steps in
    let was = at.invariant.counted in
    let spare = at.invariant.spare in
    let left = c.merge_cell.ensures.spare in
    record {
      counted = omega arith;
      merged = merged_more c.args.cells.now.0 (into_iter_items c.into_iter-cell-iterator.result) c.loop-cell.cells.0 c.merge_cell.new.cells.0 (into_iter_items c.next.new.self) c.in-Some.cell
          (subst (AreMerged c.args.cells.now.0 (into_iter_items c.into_iter-cell-iterator.result) c.loop-cell.cells.0) steps at.invariant.merged) c.merge_cell.ensures.merged;
      spare = omega arith;
    }
