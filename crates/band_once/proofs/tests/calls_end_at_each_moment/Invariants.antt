use Rattle.band_once.proofs.tests.calls_end_at_each_moment.Given as goal

abbrev pub ghosts-each_moment : goal.ghosts-each_moment
ghosts-each_moment g a = record { name = a.blank.name; parts = a.blank.parts }
