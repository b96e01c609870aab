use Rattle.star_engine.specs.EngineRepr.{HasTables}
use Rattle.program_tests.proofs.engine.answered.Given as goal

abbrev pub invariant-loop-place : goal.invariant-loop-place
invariant-loop-place g l = HasTables l.engine
