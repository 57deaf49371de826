use Rattle.band_line.proofs.tests.sets_wake_all.Given as goal

abbrev pub ghosts-sets_wake : goal.ghosts-sets_wake
ghosts-sets_wake g a = record { name = a.blank.name; parts = a.blank.parts }
