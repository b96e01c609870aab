use Rattle.join_tests.proofs.joins.keys_of.Given as goal

abbrev pub ghosts-chosen_keys : goal.ghosts-chosen_keys
ghosts-chosen_keys a = record { name = a.blank.name; parts = a.blank.parts }
