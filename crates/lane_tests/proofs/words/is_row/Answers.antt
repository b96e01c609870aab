use Rattle.std.proofs.Common.{arith}
use Rattle.lane_tests.proofs.RowLemmas.{row_of, one_more}
use Rattle.lane_tests.proofs.words.is_row.Goals as goal

pub loop-column-preserved : goal.loop-column-preserved
loop-column-preserved c = (
  c.loop-column.invariant.0,
  one_more c.args.widths.now c.args.codes.now c.loop-column.column c.loop-column.invariant.1 (omega (arith, c.if-codes-column.false, c.full_size.ensures)),
)

pub returns : goal.returns
returns c = λ _. row_of c.args.widths.now c.args.codes.now c.loop-column.invariant.0 (λ k lt. c.loop-column.invariant.1 k (omega (arith, lt, c.loop-column-test.false)))
