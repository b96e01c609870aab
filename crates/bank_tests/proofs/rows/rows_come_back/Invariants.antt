use Rattle.std.proofs.Common.{[], ◌∷◌}
use Rattle.bank_tests.specs.BankState.{IsHeld}
use Rattle.bank_tests.proofs.rows.rows_come_back.Given as goal

abbrev pub invariant-loop-row : goal.invariant-loop-row
invariant-loop-row g l = IsHeld (3 ∷ 4 ∷ 11 ∷ []) l.bank l.pool.slots
