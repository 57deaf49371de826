use Rattle.band_sem.proofs.closes.a_close_ends_who_waits.Given as goal

abbrev pub ghosts-each : goal.ghosts-each
ghosts-each g a = record { name = a.blank.name; parts = a.blank.parts }
