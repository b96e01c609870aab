use Rattle.pool_tests.specs.Entries.{AreHeld}
use Rattle.pool_tests.proofs.blocks.give_all.Given as goal

abbrev pub invariant-loop-step : goal.invariant-loop-step
invariant-loop-step g l = AreHeld l.pool.slots l.entries.items (λ e. e.id.0)
