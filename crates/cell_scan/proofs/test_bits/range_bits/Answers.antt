use Rattle.std.proofs.Common.{◌&&◌, arith, nat_le, ◌∙◌}
use Rattle.cell_layout.specs.Image.{cell_at}
use Rattle.cell_scan.proofs.PageLemmas.{code_put}
use Rattle.cell_scan.proofs.test_bits.range_bits.Goals as goal

pub loop-row-preserved : goal.loop-row-preserved
loop-row-preserved g c =
    c.set.ensures
    ∙ code_put (λ code. nat_le c.args.range.low code && nat_le code c.args.range.high) (cell_at c.args.image.now c.args.cell).rows c.args.first c.loop-row.row c.args.column c.code-code.result c.loop-row.bits
    c.loop-row.invariant c.code-code.ensures (omega arith) (omega arith)
