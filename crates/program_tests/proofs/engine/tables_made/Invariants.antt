use Rattle.star_engine.specs.EngineRepr.{HasTables}
use Rattle.program_tests.proofs.engine.tables_made.Given as goal

abbrev pub invariant-loop : goal.invariant-loop
invariant-loop g l = HasTables l.engine
