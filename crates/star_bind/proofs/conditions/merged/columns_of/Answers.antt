use Rattle.star_bind.specs.declared.query.ColumnTest.{ColumnTest}
use Rattle.star_bind.proofs.CappedCountLemmas.{all_numbers}
use Rattle.star_bind.proofs.conditions.merged.columns_of.Goals as goal

pub returns : goal.returns
returns c = all_numbers (λ (t : ColumnTest). t.column) c.loop-test.columns c.args.tests.now c.loop-test.test-index c.loop-test-test.false c.loop-test.invariant
