use Rattle.layout_tests.proofs.cells.rows_are_read.Given as goal

abbrev pub ghosts-first_row : goal.ghosts-first_row
ghosts-first_row g a = record { name = a.blank.name; parts = a.blank.parts }
