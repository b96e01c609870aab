use Rattle.std.proofs.Common.{◌+◌, [], take, subst, sym}
use Rattle.std.proofs.lemmas.List.{take_all}
use Rattle.cell_layout.specs.declared.cells.PlacedRows.{PlacedRows}
use Rattle.cell_layout.specs.RowPartition.{ArePlaced}
use Rattle.cell_layout.proofs.RowPartitionLemmas.{none_placed, coded_next, rest_next}
use Rattle.cell_layout.proofs.cells.place_rows.Goals as goal
use Rattle.cell_layout.proofs.cells.place_rows.Goals.{then-branch+in_ok-at, else-branch+in_ok-copy+in_ok-push}

pub loop-place-init : goal.loop-place-init
loop-place-init g c = rw (c.new.ensures.list, c.new-2.ensures.list) (none_placed c.args.dicts.now)

pub loop-place-preserved : goal.loop-place-preserved
loop-place-preserved g c = elim c.if-branch.branch [
  | then-branch+in_ok-at w ↦
      subst (λ (p : PlacedRows). ArePlaced c.args.dicts.now (take (c.loop-place.place + 1) c.args.rows.now) p.cells.0 p.rest.0) (sym w.placed-is)
      (coded_next c.args.dicts.now [] c.args.rows.now c.loop-place.place c.index-rows-place.result c.as_slice.result.now c.in_ok-read.field-0 c.loop-place.placed.cells.0 w.put_row.new.cells.0 c.loop-place.placed.rest.0 c.read.new.self.classes.items
      c.read.new.self.codes.items c.loop-place.invariant c.index-rows-place.is c.loop-place-test.true c.as_slice.ensures c.in_ok-read.ensures.told w.if-branch.true c.in_ok-read.ensures.classes c.in_ok-read.ensures.codes w.in_ok-at.ensures)
  | else-branch+in_ok-copy+in_ok-push w ↦
      subst (λ (p : PlacedRows). ArePlaced c.args.dicts.now (take (c.loop-place.place + 1) c.args.rows.now) p.cells.0 p.rest.0) (sym w.placed-is)
      (rest_next c.args.dicts.now [] c.args.rows.now c.loop-place.place c.index-rows-place.result c.as_slice.result.now w.in_ok-copy.field-0 c.in_ok-read.field-0 c.loop-place.placed.cells.0 c.loop-place.placed.rest.0 w.push.new.self.0
      c.loop-place.invariant c.index-rows-place.is c.loop-place-test.true c.as_slice.ensures c.in_ok-read.ensures.told w.if-branch.false w.in_ok-copy.ensures w.in_ok-push.ensures.ok)
]

pub returns : goal.returns
returns g c =
    subst (λ l. ArePlaced c.args.dicts.now l c.loop-place.placed.cells.0 c.loop-place.placed.rest.0) (take_all c.loop-place.place c.args.rows.now c.loop-place-test.false) c.loop-place.invariant
