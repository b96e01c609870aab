use Rattle.bank_tests.specs.BankState.{IsHeld}
use Rattle.bank_tests.proofs.rows.makes_word.Given as goal

abbrev pub invariant-loop-codes : goal.invariant-loop-codes
invariant-loop-codes g l = IsHeld l.widths l.bank l.pool.slots
