use Rattle.band_sem.proofs.tests.permits_come_and_go.Given as goal

abbrev pub ghosts-comes_and_goes : goal.ghosts-comes_and_goes
ghosts-comes_and_goes g a = record { name = a.blank.name; parts = a.blank.parts }
