use Rattle.layout_tests.proofs.codes.values_have_codes.Given as goal

abbrev pub ghosts-place_in : goal.ghosts-place_in
ghosts-place_in g a = record { name = a.blank.name; parts = a.blank.parts }
