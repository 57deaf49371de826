use Rattle.band_event.proofs.tests.the_event_is_reset.Given as goal

abbrev pub ghosts-event_is_reset : goal.ghosts-event_is_reset
ghosts-event_is_reset g a = record { name = a.blank.name; parts = a.blank.parts }
