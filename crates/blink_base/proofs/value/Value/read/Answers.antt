use Rattle.blink_base.proofs.ReadValueLemmas.{ints_good, dates_good}
use Rattle.blink_base.proofs.value.Value.read.Goals as goal

pub returns-in-Int-clause-good : goal.returns-in-Int-clause-good
returns-in-Int-clause-good c = rw c.in-Int.is (ints_good c.args.bytes.now c.read_int.result c.read_int.ensures)

pub returns-in-Date-clause-good : goal.returns-in-Date-clause-good
returns-in-Date-clause-good c = rw c.in-Date.is (dates_good c.args.bytes.now c.read_date.result c.read_date.ensures.value)
