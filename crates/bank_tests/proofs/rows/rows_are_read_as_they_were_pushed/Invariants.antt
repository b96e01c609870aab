use Rattle.bank_tests.proofs.rows.rows_are_read_as_they_were_pushed.Given as goal

abbrev pub ghosts-rows_come_back : goal.ghosts-rows_come_back
ghosts-rows_come_back g a = record { name = a.blank.name; parts = a.blank.parts }
