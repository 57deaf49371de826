use Rattle.band_sem.proofs.tests.who_waits_is_served_first.Given as goal

abbrev pub ghosts-each_waits : goal.ghosts-each_waits
ghosts-each_waits g a = record { name = a.blank.name; parts = a.blank.parts }
