use Rattle.band_signal.proofs.tests.the_barrier_ends.Given as goal

abbrev pub ghosts-barrier_ends : goal.ghosts-barrier_ends
ghosts-barrier_ends g a = record { name = a.blank.name; parts = a.blank.parts }

abbrev pub ghosts-three_meet : goal.ghosts-three_meet
ghosts-three_meet g a = record { name = a.blank.name; parts = a.blank.parts }
