use Rattle.band_phaser.proofs.tests.the_phase_wraps.Given as goal

abbrev pub ghosts-phase_wraps : goal.ghosts-phase_wraps
ghosts-phase_wraps g a = record { name = a.blank.name; parts = a.blank.parts }
