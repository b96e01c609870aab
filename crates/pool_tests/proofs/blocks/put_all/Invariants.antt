use Rattle.pool_tests.specs.Entries.{AreHeld}
use Rattle.pool_tests.proofs.blocks.put_all.Given as goal

abbrev pub invariant-loop-tag : goal.invariant-loop-tag
invariant-loop-tag g l = AreHeld l.pool.slots l.entries.items (λ e. e.id.0)
