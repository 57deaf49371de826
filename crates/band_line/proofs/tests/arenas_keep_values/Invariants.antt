use Rattle.band_line.proofs.tests.arenas_keep_values.Given as goal

abbrev pub ghosts-arenas_keep : goal.ghosts-arenas_keep
ghosts-arenas_keep g a = record { name = a.blank.name; parts = a.blank.parts }
