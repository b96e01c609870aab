use Rattle.pool_tests.specs.Entries.{AreHeld}
use Rattle.pool_tests.proofs.blocks.rounds_agree.Given as goal

abbrev pub invariant-loop-taken : goal.invariant-loop-taken
invariant-loop-taken g l = AreHeld l.pool.slots l.entries.items (λ e. e.id.0)
