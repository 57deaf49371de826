use Rattle.band_lock.proofs.tests.mutexes_live.Given as goal

abbrev pub ghosts-each_mutex : goal.ghosts-each_mutex
ghosts-each_mutex g a = record { name = a.blank.name; parts = a.blank.parts }
