use Rattle.band_signal.proofs.tests.the_group_ends.Given as goal

abbrev pub ghosts-group_ends : goal.ghosts-group_ends
ghosts-group_ends g a = record { name = a.blank.name; parts = a.blank.parts }
