use Rattle.band_sem.proofs.tests.the_first_gives_up.Given as goal

abbrev pub ghosts-first_gives_up : goal.ghosts-first_gives_up
ghosts-first_gives_up g a = record { name = a.blank.name; parts = a.blank.parts }
