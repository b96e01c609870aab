use Rattle.program_tests.proofs.engine.tables_are_limited.Given as goal

abbrev pub ghosts-tables_made : goal.ghosts-tables_made
ghosts-tables_made g a = record { name = a.blank.name; parts = a.blank.parts }
