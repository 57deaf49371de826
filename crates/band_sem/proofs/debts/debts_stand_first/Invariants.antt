use Rattle.band_sem.proofs.debts.debts_stand_first.Given as goal

abbrev pub ghosts-each : goal.ghosts-each
ghosts-each g a = record { name = a.blank.name; parts = a.blank.parts }
