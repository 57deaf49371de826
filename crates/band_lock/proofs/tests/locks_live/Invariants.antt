use Rattle.band_lock.proofs.tests.locks_live.Given as goal

abbrev pub ghosts-each_lock : goal.ghosts-each_lock
ghosts-each_lock g a = record { name = a.blank.name; parts = a.blank.parts }
