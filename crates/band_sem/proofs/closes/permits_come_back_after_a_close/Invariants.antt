use Rattle.band_sem.proofs.closes.permits_come_back_after_a_close.Given as goal

abbrev pub ghosts-after_a_close : goal.ghosts-after_a_close
ghosts-after_a_close g a = record { name = a.blank.name; parts = a.blank.parts }
