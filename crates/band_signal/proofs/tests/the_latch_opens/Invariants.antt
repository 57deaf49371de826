use Rattle.band_signal.proofs.tests.the_latch_opens.Given as goal

abbrev pub ghosts-latch_opens : goal.ghosts-latch_opens
ghosts-latch_opens g a = record { name = a.blank.name; parts = a.blank.parts }

abbrev pub ghosts-countdown_falls : goal.ghosts-countdown_falls
ghosts-countdown_falls g a = record { name = a.blank.name; parts = a.blank.parts }
