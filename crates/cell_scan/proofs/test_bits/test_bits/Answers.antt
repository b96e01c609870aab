use Rattle.std.proofs.Common.{◌∙◌, drop, get_or, sym, take}
use Rattle.cell_layout.specs.Image.{cell_at}
use Rattle.cell_scan.specs.Match.{bits_where}
use Rattle.cell_scan.proofs.CodeTestLemmas.{one_range}
use Rattle.cell_scan.proofs.test_bits.test_bits.Goals as goal

pub returns-in-Narrow : goal.returns-in-Narrow
returns-in-Narrow g c =
    c.range_bits.ensures
    ∙ (λ i. bits_where (λ row. one_range c.args.test.now.ranges c.in-Narrow.narrow c.range.result (get_or row c.args.test.now.column 0) c.in-Narrow.is c.requires.fair (sym c.len.ensures ∙ c.if-len-eq1.true) c.range.ensures c.codes_lie_in_runs.ensures i) (take c.args.rows (drop c.args.first (cell_at c.args.image.now c.args.cell).rows)))
