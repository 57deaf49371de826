use Rattle.band_once.proofs.tests.cells_live.Given as goal

abbrev pub ghosts-each_life : goal.ghosts-each_life
ghosts-each_life g a = record { name = a.blank.name; parts = a.blank.parts }
