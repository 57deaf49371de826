use Rattle.band_signal.proofs.tests.the_completion_ends.Given as goal

abbrev pub ghosts-completion_ends : goal.ghosts-completion_ends
ghosts-completion_ends g a = record { name = a.blank.name; parts = a.blank.parts }

abbrev pub ghosts-abandoned_is_told : goal.ghosts-abandoned_is_told
ghosts-abandoned_is_told g a = record { name = a.blank.name; parts = a.blank.parts }
