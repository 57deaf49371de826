use Rattle.band_signal.proofs.tests.the_shutdown_ends.Given as goal

abbrev pub ghosts-shutdown_ends : goal.ghosts-shutdown_ends
ghosts-shutdown_ends g a = record { name = a.blank.name; parts = a.blank.parts }
