use Rattle.band_sem.proofs.mixed.mixed_calls_keep_the_rules.Given as goal

abbrev pub ghosts-mixed : goal.ghosts-mixed
ghosts-mixed g a = record { name = a.blank.name; parts = a.blank.parts }
