use Rattle.band_sem.proofs.tests.too_much_is_refused.Given as goal

abbrev pub ghosts-refuses : goal.ghosts-refuses
ghosts-refuses g a = record { name = a.blank.name; parts = a.blank.parts }
