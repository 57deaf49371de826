use Rattle.band_event.proofs.tests.the_signal_is_stored.Given as goal

abbrev pub ghosts-signal_is_stored : goal.ghosts-signal_is_stored
ghosts-signal_is_stored g a = record { name = a.blank.name; parts = a.blank.parts }
