use Rattle.std.proofs.Common.{map, ap, ◌∙◌, arith}
use Rattle.std.proofs.lemmas.List.{take_all}
use Rattle.star_engine.specs.TableLayout.{cell_line}
use Rattle.star_engine.proofs.TableLayoutLemmas.{cells_more}
use Rattle.star_engine.proofs.describe.cell_lines.Goals as goal

pub loop-cell-preserved : goal.loop-cell-preserved
loop-cell-preserved g c =
    let count = c.cell_count-cell-end.ensures in
    let more = cells_more c.args.image.now c.loop-cell.cell (omega arith) in
    let line = c.in_ok-cell_line.ensures in
    let pushed = c.in_ok-push.ensures.ok in
    let before = c.loop-cell.invariant in
    cc (line, pushed, before, more)

pub returns : goal.returns
returns g c =
    let count = c.cell_count-cell-end.ensures in
    c.loop-cell.invariant ∙ ap (map (cell_line c.args.image.now)) (take_all c.loop-cell.cell c.args.image.now.cells (omega arith))
