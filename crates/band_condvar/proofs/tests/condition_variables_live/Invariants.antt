use Rattle.band_condvar.proofs.tests.condition_variables_live.Given as goal

abbrev pub ghosts-each_life : goal.ghosts-each_life
ghosts-each_life g a = record { name = a.blank.name; parts = a.blank.parts }
