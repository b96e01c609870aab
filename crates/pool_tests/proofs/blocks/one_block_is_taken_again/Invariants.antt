use Rattle.pool_tests.proofs.blocks.one_block_is_taken_again.Given as goal

abbrev pub ghosts-answers_of_one : goal.ghosts-answers_of_one
ghosts-answers_of_one g a = record { name = a.blank.name; parts = a.blank.parts }
