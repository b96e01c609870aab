use Rattle.layout_tests.proofs.cells.shown.Given as goal

abbrev pub ghosts-grown_image : goal.ghosts-grown_image
ghosts-grown_image a = record { name = a.blank.name; parts = a.blank.parts }
