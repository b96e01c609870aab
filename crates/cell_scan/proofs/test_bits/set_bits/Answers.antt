use Rattle.std.proofs.Common.{◌==◌, arith, ap, set, ◌∙◌}
use Rattle.std.specs.List.{list_any}
use Rattle.page_synopsis.specs.Sets.{codes_in}
use Rattle.cell_layout.specs.Image.{cell_at}
use Rattle.cell_scan.proofs.PageLemmas.{code_put}
use Rattle.cell_scan.proofs.test_bits.set_bits.Goals as goal

pub loop-row-preserved : goal.loop-row-preserved
loop-row-preserved g c =
    c.set.ensures
    ∙ ap (λ value. set c.loop-row.bits c.loop-row.row value) c.holds.ensures
    ∙ code_put (λ code. list_any (λ k. k == code) (codes_in c.args.ranges.now)) (cell_at c.args.image.now c.args.cell).rows c.args.first c.loop-row.row c.args.column c.code.result c.loop-row.bits
    c.loop-row.invariant c.code.ensures (omega arith) (omega arith)
