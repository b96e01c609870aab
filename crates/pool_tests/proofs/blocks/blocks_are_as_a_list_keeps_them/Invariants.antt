use Rattle.pool_tests.proofs.blocks.blocks_are_as_a_list_keeps_them.Given as goal

abbrev pub ghosts-rounds_agree : goal.ghosts-rounds_agree
ghosts-rounds_agree g a = record { name = a.blank.name; parts = a.blank.parts }
