use Rattle.band_line.proofs.tests.lists_keep_the_order.Given as goal

abbrev pub ghosts-lists_keep : goal.ghosts-lists_keep
ghosts-lists_keep g a = record { name = a.blank.name; parts = a.blank.parts }
