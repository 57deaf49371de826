use Rattle.band_event.proofs.tests.the_signal_is_handed_on.Given as goal

abbrev pub ghosts-signal_is_handed_on : goal.ghosts-signal_is_handed_on
ghosts-signal_is_handed_on g a = record { name = a.blank.name; parts = a.blank.parts }
