use Rattle.band_player.proofs.tests.steps_once.Given as goal

abbrev pub ghosts-one_step : goal.ghosts-one_step
ghosts-one_step g a = record { name = a.blank.name; parts = a.blank.parts }
