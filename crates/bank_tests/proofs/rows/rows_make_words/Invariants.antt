use Rattle.bank_tests.proofs.rows.rows_make_words.Given as goal

abbrev pub ghosts-makes_word : goal.ghosts-makes_word
ghosts-makes_word g a = record { name = a.blank.name; parts = a.blank.parts }
